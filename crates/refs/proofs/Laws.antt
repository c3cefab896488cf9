-- Laws of claims, of a line's references, and of the pass over all lines.
use mathlib.Core.Path.{◌≡◌, refl, sym, ap, ◌∙◌}
use mathlib.Core.Bool.{Bool, true, false, cond, not, ◌&&◌, ◌||◌}
use mathlib.Core.List.{List, [], ◌∷◌}
use Rattle.std.specs.Prelude.{Option, None}
use Prim.Native.Nat.{ℕ, suc, ◌+◌, ◌-◌, ◌≤◌, ◌<◌, min}
use native.Mathlib.Omega.{arith}
use native.Mathlib.Numerals.{add-one}
use lib.Dec.{ltb, eqb}
use lib.ListN.{length, drop, get_or, set, length-set, drop_of_length-le}
use lib.Seq.{drop-cons, get_or-set_same, get_or-set_other}
use borrow.Author.Tests.{lt-ltb, le-ltb, eq-eqb, ne_eqb, ltb-true, ltb-false, eqb-true, eqb-false}
use Rattle.semantics.specs.Text.{any}
use Rattle.semantics.specs.Form as Form
use Rattle.semantics.specs.Refusal as Refusal
use Rattle.semantics.specs.Refusal.{use_all, refs_of, bad_ref_from}
use Rattle.decimal.specs.Number as Number
use Rattle.form.specs.declared.Walk.{Walk}
use Rattle.form.specs.Table.{kind_at}
use Rattle.semantics.proofs.Common.{never}
use Rattle.form.specs.Letters.{letter_holds, letters_from, fields_left, beginning, WalkAt, WalkStepped}
use Rattle.lines.specs.Lines.{lines_in, text_at, reads_in, read_at, form_at, Whole}
use Rattle.lines.proofs.Line.{line-count, kind-is, form-low}
use Rattle.refs.specs.Refs.{is_ref, wanted_by, ref_by, refs_by, used_at, claims, used_marked, as_bit, Used, Uses, RefsOutcome}
use Rattle.refs.proofs.Letters.{as_ref, refs_left, ref-number, refs-begin, stands, refs-step, refs_end}

-- ---- a claim, by the tests that lead to its answer

module _ (s t : List ℕ) (k x r : ℕ) where
  pub claim-plain : is_ref x ≡ false → (true ≡ claims s t k x r) × (t ≡ used_marked t x r)
  unfolding claims used_marked
  claim-plain e = (rw e, rw e)

  module _ (ref : is_ref x ≡ true) where
    same-either : (b : Bool) → r ≡ 0 → t ≡ cond b (used_marked t x r) t
    unfolding used_marked
    same-either true z = rw (ref, eq-eqb r 0 z)
    same-either false z = refl

    pub claim-zero : r ≡ 0 → (ltb x 64 ≡ claims s t k x r) × (t ≡ cond (ltb x 64) (used_marked t x r) t)
    unfolding claims
    claim-zero z = (rw (ref, eq-eqb r 0 z), same-either (ltb x 64) z)

    module _ (Some : r ≡ 0 → ⊥) where
      open-claim : claims s t k x r ≡ ltb r k && eqb (kind_at (form_at s (r - 1))) (wanted_by x) && eqb (used_at t (r - 1)) 0
      unfolding claims
      open-claim = rw (ref, ne_eqb r 0 Some)

      pub claim-late : k ≤ r → (false ≡ claims s t k x r) × (t ≡ t)
      claim-late h = (sym (open-claim ∙ rw (le-ltb r k h)), refl)

      module _ (early : r < k) where
        pub claim-kind : (kind_at (form_at s (r - 1)) ≡ wanted_by x → ⊥) → (false ≡ claims s t k x r) × (t ≡ t)
        claim-kind n = (sym (open-claim ∙ rw (lt-ltb r k early, ne_eqb _ _ n)), refl)

        module _ (kind : kind_at (form_at s (r - 1)) ≡ wanted_by x) where
          pub claim-used : (used_at t (r - 1) ≡ 0 → ⊥) → (false ≡ claims s t k x r) × (t ≡ t)
          claim-used n = (sym (open-claim ∙ rw (lt-ltb r k early, eq-eqb _ _ kind, ne_eqb _ _ n)), refl)

          pub claim-good : used_at t (r - 1) ≡ 0 → (true ≡ claims s t k x r) × (set t (3072 + (r - 1)) 1 ≡ used_marked t x r)
          unfolding used_marked
          claim-good e = (sym (open-claim ∙ rw (lt-ltb r k early, eq-eqb _ _ kind, eq-eqb _ _ e)), rw (ref, ne_eqb r 0 Some))

marked-room : (t : List ℕ) (x r : ℕ) → 5120 ≤ length t → 5120 ≤ length (used_marked t x r)
unfolding used_marked
marked-room t x r h = go (is_ref x && not (eqb r 0))
  where
    go : (b : Bool) → 5120 ≤ length (cond b (set t (3072 + (r - 1)) 1) t)
    go true = rw (length-set t (3072 + (r - 1)) 1) h
    go false = h

-- ---- one field

not_flag : (b : Bool) → not b ≡ eqb (as_bit b) 0
not_flag true = refl
not_flag false = refl

-- one field's reference done: o is what it makes of the lines used
pub record Turn (ls : List Form.Read) (k : ℕ) (o : Option (List ℕ)) (rs : List Refusal.Ref) (t : List ℕ) : Type 0 where
  pub us : List ℕ
  pub same : o ≡ use_all ls k rs us
  pub table : Used t us

module _ (s t : List ℕ) (k : ℕ) (w : Whole s) (room : 5120 ≤ length t) (hk : k ≤ lines_in s) (us : List ℕ) (used : Used t us) (x : ℕ) (f : List ℕ) (v : ℕ)
    (hv : v ≡ Number.number_up_to 65536 f) (good : letter_holds x f ≡ true) (rs : List Refusal.Ref) where
  few : lines_in s ≤ 1024
  few = w.few

  referred_line : ℕ
  referred_line = Form.number_of f

  module _ (ref : is_ref x ≡ true) where
    v-is : v ≡ min referred_line 65536
    unfolding referred_line
    v-is = hv ∙ ref-number x f ref good

    same_good : Refusal.good_ref (reads_in s) k us (as_ref x f) ≡ claims s t k x v
    unfolding as_ref referred_line claims
    same_good = go (eqb referred_line 0) (ltb referred_line k) refl refl
      where
        go : (y z : Bool) → eqb referred_line 0 ≡ y → ltb referred_line k ≡ z → Refusal.good_ref (reads_in s) k us (as_ref x f) ≡ claims s t k x v
        go true z p q =
            let e : referred_line ≡ 0 = eqb-true referred_line 0 p in
            simp (p, ref, eq-eqb v 0 (omega (arith, v-is)))
        go false false p q =
            let e : (referred_line ≡ 0 → ⊥) = eqb-false referred_line 0 p in
            let l : k ≤ referred_line = ltb-false referred_line k q in
            simp (p, q, ref, ne_eqb v 0 (λ z. e (omega (arith, v-is))), le-ltb v k (omega (arith, v-is)))
        go false true p q =
            let e : (referred_line ≡ 0 → ⊥) = eqb-false referred_line 0 p in
            let l : referred_line < k = ltb-true referred_line k q in
            let d : v ≡ referred_line = omega (arith, v-is) in
            let c : suc (referred_line - 1) ≡ referred_line = omega (arith, e) in
            let h : referred_line - 1 < lines_in s = omega (arith, e) in
            let u : not (any (eqb referred_line) us) ≡ eqb (used_at t (referred_line - 1)) 0 = not_flag (any (eqb referred_line) us) ∙ ap (λ (j : ℕ). eqb j 0) (sym (used (referred_line - 1) (omega arith) ∙ ap (λ (j : ℕ). as_bit (any (eqb j) us)) c)) in
            rw d (simp (p, q, ref, kind-is s w (referred_line - 1) h, u))

    claim-early : claims s t k x v ≡ true → (v ≡ 0 → ⊥) → v < k
    claim-early c z = go (ltb v k) refl
      where
        go : (y : Bool) → ltb v k ≡ y → v < k
        go true q = ltb-true v k q
        go false q = never (sym (open-claim s t k x v ref z ∙ rw q) ∙ c)

    used-after : claims s t k x v ≡ true → Used (used_marked t x v) (referred_line ∷ us)
    unfolding used_marked used_at referred_line
    used-after c i h = go (eqb v 0) refl
      where
        go : (y : Bool) → eqb v 0 ≡ y → get_or (used_marked t x v) (3072 + i) 0 ≡ as_bit (any (eqb (suc i)) (referred_line ∷ us))
        go true q =
            let z : v ≡ 0 = eqb-true v 0 q in
            simp (ref, q, ne_eqb (suc i) referred_line (λ y. omega (arith, v-is))) (used i h)
        go false q =
            let z : (v ≡ 0 → ⊥) = eqb-false v 0 q in
            let e : v < k = claim-early c z in
            let d : v ≡ referred_line = omega (arith, v-is) in
            simp (ref, q) (on (eqb (suc i) referred_line) refl z d e)
          where
            on : (y : Bool) → eqb (suc i) referred_line ≡ y → (v ≡ 0 → ⊥) → v ≡ referred_line → v < k → get_or (set t (3072 + (v - 1)) 1) (3072 + i) 0 ≡ as_bit (eqb (suc i) referred_line || any (eqb (suc i)) us)
            on true p z d e =
                let a : suc i ≡ referred_line = eqb-true (suc i) referred_line p in
                let b : 3072 + (v - 1) ≡ 3072 + i = omega arith in
                rw (p, b) (get_or-set_same t (3072 + i) 1 0 (omega (arith, room)))
            on false p z d e =
                let a : (suc i ≡ referred_line → ⊥) = eqb-false (suc i) referred_line p in
                rw p (get_or-set_other t (3072 + (v - 1)) (3072 + i) 1 0 (λ y. a (omega (arith, z, d))) ∙ used i h)

    ref-open : use_all (reads_in s) k (ref_by x f rs) us ≡ cond (claims s t k x v) (use_all (reads_in s) k rs (referred_line ∷ us)) None
    unfolding ref_by referred_line as_ref
    ref-open = simp ref (ap (λ (b : Bool). cond b (use_all (reads_in s) k rs (Form.number_of f ∷ us)) None) same_good)

  -- no reference
  plain-open : is_ref x ≡ false → use_all (reads_in s) k (ref_by x f rs) us ≡ use_all (reads_in s) k rs us
  unfolding ref_by
  plain-open e = rw e

  turn-good : claims s t k x v ≡ true → Turn (reads_in s) k (use_all (reads_in s) k (ref_by x f rs) us) rs (used_marked t x v)
  turn-good c = go (is_ref x) refl
    where
      go : (y : Bool) → is_ref x ≡ y → Turn (reads_in s) k (use_all (reads_in s) k (ref_by x f rs) us) rs (used_marked t x v)
      go false e = record { us = us; same = plain-open e; table = rw (← (claim-plain s t k x v e).1) used }
      go true e = record { us = referred_line ∷ us; same = ref-open e ∙ rw c; table = used-after e c }

  turn-bad : claims s t k x v ≡ false → use_all (reads_in s) k (ref_by x f rs) us ≡ None
  turn-bad c = go (is_ref x) refl
    where
      go : (y : Bool) → is_ref x ≡ y → use_all (reads_in s) k (ref_by x f rs) us ≡ None
      go false e = never (sym c ∙ sym (claim-plain s t k x v e).0)
      go true e = ref-open e ∙ rw c

-- ---- the fields of a line

-- the lines used before are those of t₀, and the fields up to w are done
pub record UsingRefs (s t : List ℕ) (i f : ℕ) (l : List ℕ) (w : Walk) (t₀ : List ℕ) : Type 0 where
  pub whole : Whole s
  pub room : 5120 ≤ length t
  pub standing : WalkAt f l w
  pub turns : (us : List ℕ) → Used t₀ us → Turn (reads_in s) (i + 1) (use_all (reads_in s) (i + 1) (refs_of (read_at s i)) us) (refs_by (letters_from f w) (fields_left l w)) t

pub using-start : (s t : List ℕ) (i : ℕ) → Whole s → 5120 ≤ length t → i < lines_in s → (l : List ℕ) (f : ℕ) → l ≡ text_at s i → f ≡ form_at s i → (w : Walk) → w ≡ beginning f → UsingRefs s t i f l w t
using-start s t i w room h l f hl hf u hu = rw hu (record {
  whole = w;
  room = room;
  standing = stands s i w h l f hl hf;
  turns = λ us r. record { us = us; same = ap (λ (rs : List Refusal.Ref). use_all (reads_in s) (i + 1) rs us) (refs-begin s i w h l f hl hf); table = r };
})

module _ (s t t₀ : List ℕ) (i : ℕ) (hi : i < lines_in s) (f : ℕ) (l : List ℕ) (w u : Walk) (x v : ℕ) (q : WalkStepped f l w x v u) (g : UsingRefs s t i f l w t₀) where
  pub using-stop : {b : Bool} (y : List ℕ) → b ≡ claims s t (i + 1) x v → b ≡ false → y ≡ cond b (used_marked t x v) t
      → (us : List ℕ) → Used t₀ us → use_all (reads_in s) (i + 1) (refs_of (read_at s i)) us ≡ None
  unfolding refs_left
  using-stop y p c hy us r =
      let k = g.turns us r in
      k.same ∙ rw (refs-step f l w u x v q) (turn-bad s t (i + 1) g.whole g.room (omega arith) k.us k.table x q.field v q.number q.good (refs_left f l u) (sym p ∙ c))

  pub using-on : {b : Bool} (y : List ℕ) → b ≡ claims s t (i + 1) x v → b ≡ true → y ≡ cond b (used_marked t x v) t → UsingRefs s y i f l u t₀
  unfolding refs_left
  using-on y p c hy =
      let d : y ≡ used_marked t x v = hy ∙ rw c in
      rw d (record {
        whole = g.whole;
        room = marked-room t x v g.room;
        standing = q.standing;
        turns = λ us r.
            let k = g.turns us r in
            let z = turn-good s t (i + 1) g.whole g.room (omega arith) k.us k.table x q.field v q.number q.good (refs_left f l u) (sym p ∙ c) in
            record { us = z.us; same = k.same ∙ rw (refs-step f l w u x v q) z.same; table = z.table };
      })

pub using-end : (s t t₀ : List ℕ) (i f : ℕ) (l : List ℕ) (w : Walk) → length l < w.at → UsingRefs s t i f l w t₀
    → (us : List ℕ) → Used t₀ us → Uses t (use_all (reads_in s) (i + 1) (refs_of (read_at s i)) us)
using-end s t t₀ i f l w h g us u =
    let q = g.turns us u in
    record { us = q.us; is = q.same ∙ rw (refs_end f l w h); table = q.table }

pub forms-low : (s : List ℕ) (k : ℕ) → Whole s → k ≤ lines_in s → (j : ℕ) → j + 1 < k → form_at s j < 42
forms-low s k w h j l = form-low s w j (omega arith)

-- ---- the pass over all lines

pub record Passing (s t : List ℕ) (i : ℕ) : Type 0 where
  pub us : List ℕ
  pub table : Used t us
  pub same : bad_ref_from (reads_in s) 1 [] (reads_in s) ≡ bad_ref_from (reads_in s) (i + 1) us (drop i (reads_in s))

bad-cons : (ls : List Form.Read) (k : ℕ) (us : List ℕ) (m : Form.Read) (ms : List Form.Read) → bad_ref_from ls k us (m ∷ ms) ≡ Refusal.or_bad k (λ (u : List ℕ). bad_ref_from ls (suc k) u ms) (use_all ls k (refs_of m) us)
unfolding bad_ref_from
bad-cons ls k us m ms = refl

bad-nil : (ls : List Form.Read) (k : ℕ) (us : List ℕ) → bad_ref_from ls k us [] ≡ 0
unfolding bad_ref_from
bad-nil ls k us = refl

module _ (s t : List ℕ) (i : ℕ) (p : Passing s t i) where
  pub passing-end : lines_in s ≤ i → 0 ≡ bad_ref_from (reads_in s) 1 [] (reads_in s)
  passing-end h = sym (p.same ∙ rw (drop_of_length-le (reads_in s) {i = i} (omega (arith, line-count s))) none-bad)
    where
      none-bad : bad_ref_from (reads_in s) (i + 1) p.us [] ≡ 0
      none-bad = bad-nil (reads_in s) (i + 1) p.us

  module _ (h : i < lines_in s) where
    opened-line : bad_ref_from (reads_in s) 1 [] (reads_in s) ≡ Refusal.or_bad (i + 1) (λ (u : List ℕ). bad_ref_from (reads_in s) (i + 1 + 1) u (drop (i + 1) (reads_in s))) (use_all (reads_in s) (i + 1) (refs_of (read_at s i)) p.us)
    opened-line =
        p.same
        ∙ ap (bad_ref_from (reads_in s) (i + 1) p.us) (drop-cons (reads_in s) i Refusal.no_read (omega (arith, line-count s)))
        ∙ bad-cons (reads_in s) (i + 1) p.us (read_at s i) (drop (suc i) (reads_in s))
        ∙ rw (← add-one (i + 1), ← add-one i)

    pub passing-bad : use_all (reads_in s) (i + 1) (refs_of (read_at s i)) p.us ≡ None → i + 1 ≡ bad_ref_from (reads_in s) 1 [] (reads_in s)
    passing-bad e = sym (opened-line ∙ rw e)

    pub passing-next : (u : List ℕ) → Uses u (use_all (reads_in s) (i + 1) (refs_of (read_at s i)) p.us) → Passing s u (i + 1)
    passing-next u r = record { us = r.us; table = r.table; same = opened-line ∙ rw r.is }

-- ---- an outcome by its answer

pub outcome-bad : (t : List ℕ) (o : Option (List ℕ)) (b : Bool) → b ≡ false → RefsOutcome t o b → o ≡ None
outcome-bad t o true e h = never (sym e)
outcome-bad t o false e h = h

pub outcome-good : (t : List ℕ) (o : Option (List ℕ)) (b : Bool) → b ≡ true → RefsOutcome t o b → Uses t o
outcome-good t o true e h = h
outcome-good t o false e h = never e
