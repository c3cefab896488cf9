-- What a `ty` line makes, by its form, and how a tuple is measured.
use mathlib.Core.Path.{◌≡◌, refl, sym, ap, ◌∙◌}
use mathlib.Core.Bool.{Bool, true, false, cond}
use mathlib.Core.List.{List, [], ◌∷◌, ◌++◌}
use Prim.Native.Nat.{ℕ, zero, suc, ◌+◌, ◌-◌, ◌≤◌, ◌<◌, max}
use native.Mathlib.Numerals.{add-one}
use native.Mathlib.Omega.{arith}
use lib.Dec.{ltb, eqb}
use lib.ListN.{drop, get_or}
use lib.Seq.{get_or-drop}
use borrow.Author.Tests.{ltb-true, eqb-true, ne_eqb}
use Rattle.semantics.specs.Tree.{Tys, Node}
use Rattle.semantics.specs.Tree.Ty.{tuple}
use Rattle.semantics.specs.Tree.Tys.{no_tys, and_ty}
use Rattle.semantics.specs.Form.{Read, Row, Kind, Part, letter, forms, values, number_of, fits, holds, is_count, is_number, ones, tys_of}
use Rattle.semantics.specs.Form.Kind.{k_ty}
use Rattle.semantics.specs.Form.Atom.{ref, maybe}
use Rattle.semantics.specs.Form.Part.{one, many}
use Rattle.semantics.specs.Refusal.{line_at, refs_in}
use Rattle.semantics.specs.Layout.{align_up, rounded_size, size_of, align_of, align_of_all, end_of_all, is_ptr}
use Rattle.laws.proofs.Alignments.{four-or-eight, aligned}
use Rattle.layout.proofs.Bounds.{size-bound}
use Rattle.decimal.specs.Number as Number
use Rattle.form.specs.Table.{row_at, row_node}
use Rattle.semantics.proofs.Common.{never, both}
use Rattle.lines.specs.Lines.{lines_in, reads_in, read_at, nodes_in, form_at}
use Rattle.lines.proofs.Line.{form-low, form-is, kind-is, read_fits}
use Rattle.refs.specs.Refs.{fine_ref, fine_refs}
use Rattle.refs.proofs.Fine.{needed-ref}
use Rattle.refs.proofs.Nodes.{node-at}
use Rattle.refs.proofs.Fields.{number-exact, count-exact, head-drop, tail-drop}
use Rattle.sizes.specs.Sizes.{is_long, type_at, TypeLine, TupleLine, Measures}
use Rattle.sizes.proofs.Lines.{type-lines}
use Rattle.sizes.proofs.Forms.{type-form, of_types}

-- ---- types by their forms

module _ (ns : List Node) (fs : List (List ℕ)) where
  -- all but big, real and tuples take a word
  plain_size : (f : ℕ) → f < 8 → (f ≡ 7 → ⊥) → (size_of (row_node ns f fs).ty ≡ cond (is_long f) 8 4) × (align_of (row_node ns f fs).ty ≡ cond (is_long f) 8 4)
  unfolding forms
  plain_size =
      of_types
      (λ f. (f ≡ 7 → ⊥) → (size_of (row_node ns f fs).ty ≡ cond (is_long f) 8 4) × (align_of (row_node ns f fs).ty ≡ cond (is_long f) 8 4))
      (λ a. (refl, refl)) (λ a. (refl, refl)) (λ a. (refl, refl)) (λ a. (refl, refl)) (λ a. (refl, refl)) (λ a. (refl, refl)) (λ a. (refl, refl)) (λ a. absurd (a refl))

  marks-word : (f : ℕ) → f < 8 → ltb 3 f ≡ is_ptr (row_node ns f fs).ty
  unfolding forms
  marks-word = of_types (λ f. ltb 3 f ≡ is_ptr (row_node ns f fs).ty) refl refl refl refl refl refl refl refl

-- ---- the type of a line

module _ {s : List ℕ} {r : ℕ} (l : TypeLine s r) where
  pub in-sheet : r - 1 < lines_in s
  in-sheet = omega (arith, l.first, l.last)

  type-is : type_at s r ≡ (row_node (nodes_in s) (form_at s (r - 1)) (read_at s (r - 1)).fields).ty
  type-is = ap (λ (m : Node). m.ty) (node-at s l.checked.whole l.checked.good (r - 1) in-sheet)

  form-first : form_at s (r - 1) < 8
  form-first = type-form (form_at s (r - 1)) (form-low s l.checked.whole (r - 1) in-sheet) (sym (kind-is s l.checked.whole (r - 1) in-sheet) ∙ l.kind)

  -- 8 bytes for each of its lines
  size_small : size_of (type_at s r) ≤ 8192
  size_small = omega (arith, size-bound (type_at s r), type-lines s l.checked r l.first l.last, l.checked.whole.few, l.last)

  measured : {a b : ℕ} → a ≡ size_of (type_at s r) → b ≡ align_of (type_at s r) → Measures (type_at s r) a b
  measured e g = record { whole = e; step = g; small = omega (arith, size_small); low = omega (arith, four-or-eight (λ a. a ≤ 8) (omega arith) (omega arith) (type_at s r)) }

  module _ {f : ℕ} (hf : f ≡ form_at s (r - 1)) where
    pub measures-plain : (f ≡ 7 → ⊥) → (b : Bool) → b ≡ is_long f → Measures (type_at s r) (cond b 8 4) (cond b 8 4)
    measures-plain a b e =
        let w = plain_size (nodes_in s) (read_at s (r - 1)).fields f (omega (arith, form-first)) a in
        measured (rw e (sym (rw (type-is, ← hf) w.0))) (rw e (sym (rw (type-is, ← hf) w.1)))

    pub marks-first : ltb 3 f ≡ is_ptr (type_at s r)
    marks-first = rw (type-is, ← hf) (marks-word (nodes_in s) (read_at s (r - 1)).fields f (omega (arith, form-first)))

-- ---- references among fields

-- one that may be 0, and is not
pub given-ref : (ls : List Read) (k q m : ℕ) → fine_ref ls k (record { kind = q; optional = true; line = m }) ≡ true → (m ≡ 0 → ⊥) → (m < k) × (letter (line_at ls m).form.kind ≡ q)
given-ref ls k q m h z =
    let w = both (ltb m k) (eqb (letter (line_at ls m).form.kind) q) (rw (ne_eqb m 0 z) at h) in
    (ltb-true m k w.0, eqb-true (letter (line_at ls m).form.kind) q w.1)

-- a reference to an earlier line of kind k
pub record Good (ls : List Read) (i : ℕ) (k : ℕ) (f : List ℕ) : Type 0 where
  pub fine : fine_ref ls (i + 1) (record { kind = k; optional = false; line = number_of f }) ≡ true
  pub number : is_number f ≡ true

-- one that may be 0
pub record May (ls : List Read) (i : ℕ) (k : ℕ) (f : List ℕ) : Type 0 where
  pub fine : fine_ref ls (i + 1) (record { kind = k; optional = true; line = number_of f }) ≡ true
  pub number : is_number f ≡ true

module _ (ls : List Read) (i : ℕ) (a : Kind) (ps : List Part) where
  pub ref-head : (fs : List (List ℕ)) → fits (one (ref a) ∷ ps) fs ≡ true → fine_refs ls i (refs_in (one (ref a) ∷ ps) fs) ≡ true
      → Good ls i (letter a) (get_or fs 0 []) × (fits ps (drop 1 fs) ≡ true) × (fine_refs ls i (refs_in ps (drop 1 fs)) ≡ true)
  unfolding fine_refs
  ref-head [] h k = never h
  ref-head (f ∷ fs) h k =
      let v = both (is_number f) (fits ps fs) h in
      let w = both (fine_ref ls (i + 1) (record { kind = letter a; optional = false; line = number_of f })) (fine_refs ls i (refs_in ps fs)) k in
      (record { fine = w.0; number = v.0 }, v.1, w.1)

  pub maybe-head : (fs : List (List ℕ)) → fits (one (maybe a) ∷ ps) fs ≡ true → fine_refs ls i (refs_in (one (maybe a) ∷ ps) fs) ≡ true
      → May ls i (letter a) (get_or fs 0 []) × (fits ps (drop 1 fs) ≡ true) × (fine_refs ls i (refs_in ps (drop 1 fs)) ≡ true)
  unfolding fine_refs
  maybe-head [] h k = never h
  maybe-head (f ∷ fs) h k =
      let v = both (is_number f) (fits ps fs) h in
      let w = both (fine_ref ls (i + 1) (record { kind = letter a; optional = true; line = number_of f })) (fine_refs ls i (refs_in ps fs)) k in
      (record { fine = w.0; number = v.0 }, v.1, w.1)

  good-field : (m : ℕ) (fs : List (List ℕ)) → fits (ones m (ref a) ++ ps) fs ≡ true → fine_refs ls i (refs_in (ones m (ref a) ++ ps) fs) ≡ true → (j : ℕ) → j < m → Good ls i (letter a) (get_or fs j [])
  unfolding fine_refs
  good-field zero fs h k j l = absurd (omega arith)
  good-field (suc m) [] h k j l = never h
  good-field (suc m) (f ∷ fs) h k j l =
      let v = both (holds (ref a) f) (fits (ones m (ref a) ++ ps) fs) h in
      let w = both (fine_ref ls (i + 1) (record { kind = letter a; optional = false; line = number_of f })) (fine_refs ls i (refs_in (ones m (ref a) ++ ps) fs)) k in
      go j l (record { fine = w.0; number = v.0 }) (λ q y. good-field m fs v.1 w.1 q y)
    where
      go : (q : ℕ) → q < suc m → Good ls i (letter a) f → ((y : ℕ) → y < m → Good ls i (letter a) (get_or fs y [])) → Good ls i (letter a) (get_or (f ∷ fs) q [])
      go zero l g ih = g
      go (suc q) l g ih = ih q (omega arith)

  -- a count, and as many references
  pub group-good : (fs : List (List ℕ)) → fits (many (ref a) ∷ ps) fs ≡ true → fine_refs ls i (refs_in (many (ref a) ∷ ps) fs) ≡ true
      → (is_count (get_or fs 0 []) ≡ true) × ((j : ℕ) → j < number_of (get_or fs 0 []) → Good ls i (letter a) (get_or fs (suc j) []))
  group-good [] h k = never h
  group-good (f ∷ fs) h k = let w = both (is_count f) (fits (ones (number_of f) (ref a) ++ ps) fs) h in (w.0, λ j l. good-field (number_of f) fs w.1 k j l)

-- a count at field j, and as many references behind it
pub record CountedRefs (ls : List Read) (i k j : ℕ) (fs : List (List ℕ)) : Type 0 where
  pub count : is_count (get_or fs j []) ≡ true
  pub each : (q : ℕ) → q < number_of (get_or fs j []) → Good ls i k (get_or fs (j + 1 + q) [])

pub group_at : (ls : List Read) (i j : ℕ) (a : Kind) (ps : List Part) (fs : List (List ℕ)) → fits (many (ref a) ∷ ps) (drop j fs) ≡ true → fine_refs ls i (refs_in (many (ref a) ∷ ps) (drop j fs)) ≡ true → CountedRefs ls i (letter a) j fs
group_at ls i j a ps fs h k =
    let w = group-good ls i a ps (drop j fs) h k in
    let z : j + 0 ≡ j = omega arith in
    let e : get_or (drop j fs) 0 [] ≡ get_or fs j [] = get_or-drop j fs 0 [] ∙ rw z in
    record {
      count = rw e at w.0;
      each = λ q l. let y : j + 1 + q ≡ j + suc q = omega arith in rw (y, ← get_or-drop j fs (suc q) []) (w.1 q (rw e l));
    }

-- the types of a tuple of line r from field j on, where it has so many
abbrev pub types_from : List ℕ → ℕ → ℕ → ℕ → Tys
types_from s r count j = tys_of (values (ref k_ty) (nodes_in s) (count - j) (drop (suc j) (read_at s (r - 1)).fields))

ends_above : (ts : Tys) (off : ℕ) → off ≤ end_of_all ts off
ends_above no_tys off = omega arith
ends_above (and_ty t ts) off = omega (arith, aligned t off, ends_above ts (align_up (align_of t) off + size_of t))

-- the fields before j end at `size`, and need `align`
pub record Measuring (s : List ℕ) (r count size align j : ℕ) : Type 0 where
  pub within : j ≤ count
  pub end : end_of_all (types_from s r count j) size ≡ end_of_all (types_from s r count 0) 0
  pub most : max align (align_of_all (types_from s r count j)) ≡ align_of_all (types_from s r count 0)
  pub small : size ≤ 8192
  pub word : 4 ≤ align

module _ {s : List ℕ} {r : ℕ} (l : TupleLine s r) {count : ℕ} (hc : count ≡ Number.number_up_to 65536 (get_or (read_at s (r - 1)).fields 0 [])) where
  fields-good : (is_count (get_or (read_at s (r - 1)).fields 0 []) ≡ true) × ((j : ℕ) → j < number_of (get_or (read_at s (r - 1)).fields 0 []) → Good (reads_in s) (r - 1) 75 (get_or (read_at s (r - 1)).fields (suc j) []))
  unfolding forms
  fields-good =
      let w = l.line.checked.whole in
      let h = in-sheet l.line in
      let p : (read_at s (r - 1)).form.parts ≡ many (ref k_ty) ∷ [] = ap (λ (x : Row). x.parts) (form-is s w (r - 1) h) ∙ ap (λ (g : ℕ). (row_at g).parts) l.form in
      group-good (reads_in s) (r - 1) k_ty [] (read_at s (r - 1)).fields (rw l.form at (read_fits s w (r - 1) h)) (rw p at (l.line.checked.fine (r - 1) h))

  count-is : count ≡ number_of (get_or (read_at s (r - 1)).fields 0 [])
  count-is = (count-exact (get_or (read_at s (r - 1)).fields 0 []) fields-good.0 hc).0

  tuple_is : type_at s r ≡ tuple (types_from s r count 0)
  unfolding forms
  tuple_is =
      let z : count - 0 ≡ count = omega arith in
      type-is l.line ∙ rw (l.form, head-drop 0 (read_at s (r - 1)).fields, tail-drop 0 (read_at s (r - 1)).fields, z, count-is)

  ends-small : end_of_all (types_from s r count 0) 0 ≤ 8192
  ends-small =
      let e : size_of (type_at s r) ≡ rounded_size (end_of_all (types_from s r count 0) 0) = ap size_of tuple_is in
      omega (arith, size_small l.line, e)

  pub measuring-start : Measuring s r count 0 4 0
  measuring-start = record { within = omega arith; end = refl; most = four-or-eight (λ a. max 4 a ≡ a) refl refl (tuple (types_from s r count 0)); small = omega arith; word = omega arith }

  module _ {size align j : ℕ} (m : Measuring s r count size align j) where
    pub measuring-end : {a b : ℕ} → count ≤ j → a ≡ rounded_size size → b ≡ align → Measures (type_at s r) a b
    measuring-end h ha hb =
        let z : count - j ≡ 0 = omega arith in
        let e : size ≡ end_of_all (types_from s r count 0) 0 = rw z at m.end in
        let g : max align 4 ≡ align_of_all (types_from s r count 0) = rw z at m.most in
        let d : align ≡ max align 4 = omega (arith, m.word) in
        measured l.line (ha ∙ rw (tuple_is, e)) (hb ∙ d ∙ g ∙ sym (ap align_of tuple_is))

    module _ (h : j < count) {v : ℕ} (hv : v ≡ Number.number_up_to 65536 (get_or (read_at s (r - 1)).fields (j + 1) [])) where
      ref-good : Good (reads_in s) (r - 1) 75 (get_or (read_at s (r - 1)).fields (j + 1) [])
      ref-good = rw add-one (fields-good.1 j (omega (arith, count-is)))

      ref-is : (number_of (get_or (read_at s (r - 1)).fields (j + 1) []) ≡ 0 → ⊥) × (number_of (get_or (read_at s (r - 1)).fields (j + 1) []) < r - 1 + 1)
          × (letter (read_at s (number_of (get_or (read_at s (r - 1)).fields (j + 1) []) - 1)).form.kind ≡ 75)
      ref-is = needed-ref (reads_in s) (r - 1 + 1) 75 (number_of (get_or (read_at s (r - 1)).fields (j + 1) [])) ref-good.fine

      number_is : v ≡ number_of (get_or (read_at s (r - 1)).fields (j + 1) [])
      number_is =
          hv ∙ number-exact (get_or (read_at s (r - 1)).fields (j + 1) []) ref-good.number
          (omega (arith, ref-is.1, l.line.last, l.line.checked.whole.few))

      -- a field is the type of an earlier line
      pub field-line : TypeLine s v
      field-line = record {
        checked = l.line.checked;
        first = omega (arith, number_is, ref-is.0);
        last = omega (arith, number_is, ref-is.1, l.line.last);
        kind = rw number_is ref-is.2;
      }

      pub field-before : v < r
      field-before = omega (arith, number_is, ref-is.1, l.line.first)

      types-next : types_from s r count j ≡ and_ty (type_at s v) (types_from s r count (j + 1))
      types-next =
          let z : count - j ≡ suc (count - (j + 1)) = omega arith in
          rw (z, head-drop (suc j) (read_at s (r - 1)).fields, tail-drop (suc j) (read_at s (r - 1)).fields, number_is, add-one j)

      pub measuring-next : {a b c d : ℕ} → Measures (type_at s v) a b → c ≡ align_up b size + a → d ≡ max align b → Measuring s r count c d (j + 1)
      measuring-next {a} {b} {c} {d} x hc hd =
          let e : end_of_all (types_from s r count (j + 1)) c ≡ end_of_all (types_from s r count 0) 0 = rw (hc, x.whole, x.step) (rw types-next at m.end) in
          let g : max align (max (align_of (type_at s v)) (align_of_all (types_from s r count (j + 1)))) ≡ align_of_all (types_from s r count 0) = rw types-next at m.most in
          record {
            within = omega arith;
            end = e;
            most = omega (arith, g, hd, x.step);
            small = omega (arith, ends_above (types_from s r count (j + 1)) c, e, ends-small);
            word = omega (arith, m.word, hd);
          }
