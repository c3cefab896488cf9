-- Laws of nesting.
use mathlib.Core.Path.{◌≡◌, refl, sym, ap, ◌∙◌}
use mathlib.Core.Bool.{Bool, true, false, cond}
use mathlib.Core.List.{List, [], ◌∷◌, ◌++◌}
use mathlib.Core.Logic.{⊎_elim}
use Prim.Native.Nat.{ℕ, suc, ◌+◌, ◌-◌, ◌≤◌, ◌<◌, min, max}
use native.Mathlib.Omega.{arith}
use native.Mathlib.Numerals.{add-one}
use native.Mathlib.Nat.{eq-or-lt_of_le}
use lib.Dec.{leb, ltb, eqb}
use lib.ListN.{length, drop, get_or, set, drop_of_length-le, length-append, get_or-append, get_or-eq_default}
use lib.Seq.{drop-cons, get_or-set_same, get_or-set_other, get_or-append_seam}
use borrow.Author.Tests.{le-leb, lt-leb, lt-ltb, le-ltb, eq-eqb, ne_eqb, ltb-true, ltb-false, eqb-true, eqb-false}
use Rattle.semantics.specs.Form as Form
use Rattle.semantics.specs.Refusal.{Ref, no_read, refs_of, deepest, too_deep_from}
use Rattle.decimal.specs.Number as Number
use Rattle.form.specs.declared.Walk.{Walk}
use Rattle.form.specs.Letters.{letter_holds, letters_from, fields_left, beginning, WalkAt, WalkStepped}
use Rattle.lines.specs.Lines.{lines_in, text_at, reads_in, read_at, form_at, Whole}
use Rattle.lines.proofs.Line.{line-count}
use Rattle.refs.specs.Refs.{is_ref, ref_by, refs_by}
use Rattle.refs.proofs.Letters.{ref-number, refs-begin, stands, refs-step, refs_end}
use Rattle.nesting.specs.Nesting.{depth_at, ref_depth, Depths}

module _ (t : List ℕ) (i x v : ℕ) where
  pub depth-plain : is_ref x ≡ false → 0 ≡ ref_depth t i x v
  unfolding ref_depth
  depth-plain e = rw e

  module _ (ref : is_ref x ≡ true) where
    pub depth-zero : v ≡ 0 → 0 ≡ ref_depth t i x v
    unfolding ref_depth
    depth-zero z = rw (ref, eq-eqb v 0 z)

    pub depth-late : (v ≡ 0 → ⊥) → i < v → 0 ≡ ref_depth t i x v
    unfolding ref_depth
    depth-late z h = rw (ref, ne_eqb v 0 z, lt-ltb i v h)

    pub depth-line : (v ≡ 0 → ⊥) → v ≤ i → get_or t (4096 + (v - 1)) 0 ≡ ref_depth t i x v
    unfolding ref_depth depth_at
    depth-line z h = rw (ref, ne_eqb v 0 z, le-ltb i v h)

-- ---- one field

depth-get : (t : List ℕ) (j : ℕ) → depth_at t j ≡ get_or t (4096 + j) 0
unfolding depth_at
depth-get t j = refl

deepest-plain : (ds : List ℕ) (x : ℕ) (f : List ℕ) (rs : List Ref) → is_ref x ≡ false → deepest ds (ref_by x f rs) ≡ deepest ds rs
unfolding ref_by
deepest-plain ds x f rs e = rw e

deepest-ref : (ds : List ℕ) (x : ℕ) (f : List ℕ) (rs : List Ref) → is_ref x ≡ true → deepest ds (ref_by x f rs) ≡ max (cond (eqb (Form.number_of f) 0) 0 (get_or ds (Form.number_of f - 1) 0)) (deepest ds rs)
unfolding ref_by
deepest-ref ds x f rs e = rw e

module _ (t ds : List ℕ) (i : ℕ) (small : i < 1024) (d : Depths t ds i) (x : ℕ) (f : List ℕ) (v : ℕ) (hv : v ≡ Number.number_up_to 65536 f) (good : letter_holds x f ≡ true) (rs : List Ref) where
  same-depth : (m : ℕ) → is_ref x ≡ true → v ≡ min m 65536 → cond (eqb m 0) 0 (get_or ds (m - 1) 0) ≡ ref_depth t i x v
  same-depth m ref v-is = go (eqb m 0) (ltb i m) refl refl
    where
      go : (y z : Bool) → eqb m 0 ≡ y → ltb i m ≡ z → cond (eqb m 0) 0 (get_or ds (m - 1) 0) ≡ ref_depth t i x v
      go true z p q = let e = eqb-true m 0 p in rw p (depth-zero t i x v ref (omega (arith, v-is)))
      go false true p q =
          let e : (m ≡ 0 → ⊥) = eqb-false m 0 p in
          let l : i < m = ltb-true i m q in
          rw p (get_or-eq_default ds 0 (omega (arith, d.count)) ∙ depth-late t i x v ref (λ z. e (omega (arith, v-is))) (omega (arith, v-is)))
      go false false p q =
          let e : (m ≡ 0 → ⊥) = eqb-false m 0 p in
          let l : m ≤ i = ltb-false i m q in
          let c : v ≡ m = omega (arith, v-is) in
          rw p (sym (d.each (m - 1) (omega (arith, e))) ∙ depth-get t (m - 1) ∙ ap (λ (j : ℕ). get_or t (4096 + (j - 1)) 0) (sym c) ∙ depth-line t i x v ref (λ z. e (omega arith)) (omega arith))

  deepest-turn : deepest ds (ref_by x f rs) ≡ max (ref_depth t i x v) (deepest ds rs)
  deepest-turn = go (is_ref x) refl
    where
      go : (y : Bool) → is_ref x ≡ y → deepest ds (ref_by x f rs) ≡ max (ref_depth t i x v) (deepest ds rs)
      go false e = rw (← depth-plain t i x v e, deepest-plain ds x f rs e) (omega arith)
      go true e = deepest-ref ds x f rs e ∙ rw (← same-depth (Form.number_of f) e (hv ∙ ref-number x f e good)) refl

-- ---- the fields of a line

-- the deepest of the lines that the fields up to w refer to is acc
pub record DeepestTo (s t : List ℕ) (i f : ℕ) (l : List ℕ) (w : Walk) (acc : ℕ) : Type 0 where
  pub standing : WalkAt f l w
  pub same : (ds : List ℕ) → Depths t ds i → deepest ds (refs_of (read_at s i)) ≡ max acc (deepest ds (refs_by (letters_from f w) (fields_left l w)))

pub deepest-start : (s t : List ℕ) (i : ℕ) → Whole s → i < lines_in s → (l : List ℕ) (f : ℕ) → l ≡ text_at s i → f ≡ form_at s i → (w : Walk) → w ≡ beginning f → DeepestTo s t i f l w 0
deepest-start s t i w h l f hl hf u hu = rw hu (record {
  standing = stands s i w h l f hl hf;
  same = λ ds d. ap (deepest ds) (refs-begin s i w h l f hl hf) ∙ omega arith;
})

assoc : (a b c : ℕ) → max a (max b c) ≡ max (max a b) c
assoc a b c = omega arith

pub deepest-on : (s t : List ℕ) (i : ℕ) → i < 1024 → (f : ℕ) (l : List ℕ) (w u : Walk) (x v acc : ℕ) → WalkStepped f l w x v u → DeepestTo s t i f l w acc
    → (r k : ℕ) → r ≡ ref_depth t i x v → k ≡ max acc r → DeepestTo s t i f l u k
deepest-on s t i small f l w u x v acc q g r k hr hk = record {
  standing = q.standing;
  same = λ ds d.
      g.same ds d ∙ rw (refs-step f l w u x v q, deepest-turn t ds i small d x q.field v q.number q.good (refs_by (letters_from f u) (fields_left l u)))
      (assoc acc (ref_depth t i x v) _ ∙ ap (λ (j : ℕ). max j (deepest ds (refs_by (letters_from f u) (fields_left l u)))) (sym (hk ∙ ap (max acc) hr)));
}

pub deepest-end : (s t : List ℕ) (i f : ℕ) (l : List ℕ) (w : Walk) (acc : ℕ) → length l < w.at → DeepestTo s t i f l w acc
    → (ds : List ℕ) → Depths t ds i → acc ≡ deepest ds (refs_of (read_at s i))
deepest-end s t i f l w acc h g ds d = sym (g.same ds d ∙ rw (refs_end f l w h) (omega arith))

-- ---- the pass over all lines

depths-more : (t ds : List ℕ) (i q : ℕ) → i < 1024 → 5120 ≤ length t → Depths t ds i → Depths (set t (4096 + i) q) (ds ++ (q ∷ [])) (i + 1)
unfolding depth_at
depths-more t ds i q small room d = record {
  count = length-append ds (q ∷ []) ∙ omega (arith, d.count);
  each = λ j h. ⊎_elim (λ (e : j ≡ i). here j e) (λ (k : j < i). below j k) (eq-or-lt_of_le (up j h));
}
  where
    up : (j : ℕ) → j < i + 1 → j ≤ i
    up j h = omega arith

    here : (j : ℕ) → j ≡ i → get_or (set t (4096 + i) q) (4096 + j) 0 ≡ get_or (ds ++ (q ∷ [])) j 0
    here j e =
        let a : j ≡ length ds = omega (arith, d.count) in
        ap (λ (k : ℕ). get_or (set t (4096 + i) q) (4096 + k) 0) e ∙ get_or-set_same t (4096 + i) q 0 (omega arith)
        ∙ sym (ap (λ (k : ℕ). get_or (ds ++ (q ∷ [])) k 0) a ∙ get_or-append_seam ds q [] 0)

    below : (j : ℕ) → j < i → get_or (set t (4096 + i) q) (4096 + j) 0 ≡ get_or (ds ++ (q ∷ [])) j 0
    below j k =
        get_or-set_other t (4096 + i) (4096 + j) q 0 (omega arith) ∙ d.each j k ∙ sym (get_or-append ds (q ∷ []) 0 j (omega (arith, d.count)))

pub record Descending (s t : List ℕ) (i : ℕ) : Type 0 where
  pub ds : List ℕ
  pub depths : Depths t ds i
  pub same : too_deep_from 1 [] (reads_in s) ≡ too_deep_from (i + 1) ds (drop i (reads_in s))

deep-cons : (k : ℕ) (ds : List ℕ) (l : Form.Read) (ls : List Form.Read)
    → too_deep_from k ds (l ∷ ls) ≡ cond (leb (suc (deepest ds (refs_of l))) 32) (too_deep_from (suc k) (ds ++ (suc (deepest ds (refs_of l)) ∷ [])) ls) k
unfolding too_deep_from
deep-cons k ds l ls = refl

deep-nil : (k : ℕ) (ds : List ℕ) → too_deep_from k ds [] ≡ 0
unfolding too_deep_from
deep-nil k ds = refl

module _ (s t : List ℕ) (i : ℕ) (p : Descending s t i) where
  pub descending-end : lines_in s ≤ i → 0 ≡ too_deep_from 1 [] (reads_in s)
  descending-end h = sym (p.same ∙ rw (drop_of_length-le (reads_in s) {i = i} (omega (arith, line-count s))) (deep-nil (i + 1) p.ds))

  module _ (h : i < lines_in s) (d : ℕ) (hd : (ds : List ℕ) → Depths t ds i → d ≡ deepest ds (refs_of (read_at s i))) where
    opened : too_deep_from 1 [] (reads_in s) ≡ cond (leb (d + 1) 32) (too_deep_from (i + 1 + 1) (p.ds ++ ((d + 1) ∷ [])) (drop (i + 1) (reads_in s))) (i + 1)
    opened =
        p.same
        ∙ ap (too_deep_from (i + 1) p.ds) (drop-cons (reads_in s) i no_read (omega (arith, line-count s)))
        ∙ deep-cons (i + 1) p.ds (read_at s i) (drop (suc i) (reads_in s))
        ∙ rw (← hd p.ds p.depths, ← add-one (i + 1), ← add-one i, ← add-one d)

    pub descending-bad : 32 < d + 1 → i + 1 ≡ too_deep_from 1 [] (reads_in s)
    descending-bad k = sym (opened ∙ rw (lt-leb (d + 1) 32 (omega arith)))

    pub descending-next : (u : List ℕ) → i < 1024 → 5120 ≤ length t → d + 1 ≤ 32 → u ≡ set t (4096 + i) (d + 1) → Descending s u (i + 1)
    descending-next u few room k hu =
        rw hu (record {
          ds = p.ds ++ ((d + 1) ∷ []);
          depths = depths-more t p.ds i (d + 1) few room p.depths;
          same = opened ∙ rw (le-leb (d + 1) 32 (omega arith));
        })
