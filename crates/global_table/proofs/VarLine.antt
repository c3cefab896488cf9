-- A `var` line: its type, and how many names it has.
use mathlib.Core.Path.{◌≡◌, refl, sym, ap, ◌∙◌}
use mathlib.Core.Bool.{true, false}
use mathlib.Core.List.{[], ◌∷◌}
use Prim.Native.Nat.{ℕ, ◌+◌, ◌-◌, ◌≤◌, ◌<◌}
use native.Mathlib.Omega.{arith}
use lib.Dec.{eqb}
use lib.ListN.{length, drop, get_or}
use lib.Seq.{get_or-drop}
use borrow.Author.Tests.{ne_eqb}
use Rattle.semantics.specs.Text.{Bytes}
use Rattle.semantics.specs.Tree.{Ty}
use Rattle.semantics.specs.Tree.Basic.{int, byte, big, real, string}
use Rattle.semantics.specs.Tree.Ty.{basic, ptr, array, tuple}
use Rattle.semantics.specs.Layout.{size_of, is_ptr}
use Rattle.semantics.specs.Global.{global_size}
use Rattle.semantics.specs.Form.{Row, letter, forms, number_of, fits, is_count}
use Rattle.semantics.specs.Form.Kind.{k_ty, k_ex}
use Rattle.semantics.specs.Form.Atom.{name, ref, maybe}
use Rattle.semantics.specs.Form.Part.{one, many}
use Rattle.decimal.specs.Number as Number
use Rattle.form.specs.Table.{row_at, kind_at}
use Rattle.form.proofs.Table.{only-var, form-of-kind}
use Rattle.lines.specs.Lines.{lines_in, reads_in, read_at, nodes_in, form_at, Whole}
use Rattle.lines.proofs.Line.{form-low, form-is, kind-is, read_fits}
use Rattle.refs.proofs.Fine.{needed-ref}
use Rattle.sizes.specs.Sizes.{type_at, TypeLine}
use Rattle.refs.proofs.Fields.{number-exact, count-exact, third-count, values_length}
use Rattle.sizes.proofs.Types.{Good, May, ref-head, maybe-head}
use Rattle.global_table.specs.Table.{VarLine, type_on, names_on}
use Rattle.semantics.proofs.Common.{never}

-- all pointers take a word
pub size_word : (t : Ty) → is_ptr t ≡ true → 4 ≡ global_size t
size_word (basic int) h = never h
size_word (basic byte) h = never h
size_word (basic big) h = never h
size_word (basic real) h = never h
size_word (basic string) h = refl
size_word ptr h = refl
size_word (array t) h = refl
size_word (tuple ts) h = refl

-- and all else its size, at most 8
pub size-plain : (t : Ty) → is_ptr t ≡ false → (size_of t ≡ global_size t) × (global_size t ≤ 8)
size-plain (basic int) h = (refl, omega arith)
size-plain (basic byte) h = (refl, omega arith)
size-plain (basic big) h = (refl, omega arith)
size-plain (basic real) h = (refl, omega arith)
size-plain (basic string) h = never (sym h)
size-plain ptr h = never (sym h)
size-plain (array t) h = never (sym h)
size-plain (tuple ts) h = never (sym h)

-- ---- line i, from 0, by its form: row 29 is that of `var` lines

module _ (s : Bytes) (w : Whole s) (i : ℕ) (h : i < lines_in s) {f : ℕ} (hf : f ≡ form_at s i) where
  pub kind-other : (f ≡ 29 → ⊥) → eqb (letter (read_at s i).form.kind) 72 ≡ false
  kind-other z = ne_eqb (letter (read_at s i).form.kind) 72 (λ e. z (hf ∙ form-of-kind only-var (form_at s i) (form-low s w i h) (sym (kind-is s w i h) ∙ e)))

  pub kind-var : f ≡ 29 → letter (read_at s i).form.kind ≡ 72
  unfolding forms
  kind-var e = kind-is s w i h ∙ ap kind_at (sym hf ∙ e)

-- ---- its fields

pub names-count : (s : Bytes) (r : ℕ) → length (names_on s r) ≡ number_of (get_or (read_at s (r - 1)).fields 2 [])
names-count s r = values_length name (nodes_in s) (number_of (get_or (read_at s (r - 1)).fields 2 [])) (drop 3 (read_at s (r - 1)).fields)

module _ (s : Bytes) (r : ℕ) (l : VarLine s r) where
  pub var-in : r - 1 < lines_in s
  var-in = omega (arith, l.first, l.last)

  form-var : form_at s (r - 1) ≡ 29
  form-var = form-of-kind only-var (form_at s (r - 1)) (form-low s l.checked.whole (r - 1) var-in) (sym (kind-is s l.checked.whole (r - 1) var-in) ∙ l.kind)

  -- a type, a value or none, and how many names
  pub parts-good : Good (reads_in s) (r - 1) 75 (get_or (read_at s (r - 1)).fields 0 []) × May (reads_in s) (r - 1) 69 (get_or (read_at s (r - 1)).fields 1 []) × (is_count (get_or (read_at s (r - 1)).fields 2 []) ≡ true)
  unfolding forms
  parts-good =
      let w = l.checked.whole in
      let p : (read_at s (r - 1)).form.parts ≡ one (ref k_ty) ∷ (one (maybe k_ex) ∷ (many name ∷ [])) = ap (λ (x : Row). x.parts) (form-is s w (r - 1) var-in) ∙ ap (λ (g : ℕ). (row_at g).parts) form-var in
      let q : fits (one (ref k_ty) ∷ (one (maybe k_ex) ∷ (many name ∷ []))) (read_at s (r - 1)).fields ≡ true = rw form-var at (read_fits s w (r - 1) var-in) in
      let x = ref-head (reads_in s) (r - 1) k_ty (one (maybe k_ex) ∷ (many name ∷ [])) (read_at s (r - 1)).fields q (rw p at (l.checked.fine (r - 1) var-in)) in
      let y = maybe-head (reads_in s) (r - 1) k_ex (many name ∷ []) (drop 1 (read_at s (r - 1)).fields) x.1 x.2 in (
        x.0,
        rw (get_or-drop 1 (read_at s (r - 1)).fields 0 []) at y.0,
        third-count (ref k_ty) (maybe k_ex) name [] (read_at s (r - 1)).fields q,
      )

  ref-is : (number_of (get_or (read_at s (r - 1)).fields 0 []) ≡ 0 → ⊥) × (number_of (get_or (read_at s (r - 1)).fields 0 []) < r - 1 + 1)
      × (letter (read_at s (number_of (get_or (read_at s (r - 1)).fields 0 []) - 1)).form.kind ≡ 75)
  ref-is = needed-ref (reads_in s) (r - 1 + 1) 75 (number_of (get_or (read_at s (r - 1)).fields 0 [])) parts-good.0.fine

  module _ (v : ℕ) (hv : v ≡ Number.number_up_to 65536 (get_or (read_at s (r - 1)).fields 0 [])) where
    type-number : v ≡ number_of (get_or (read_at s (r - 1)).fields 0 [])
    type-number = hv ∙ number-exact (get_or (read_at s (r - 1)).fields 0 []) parts-good.0.number (omega (arith, ref-is.1, l.last, l.checked.whole.few))

    pub type-line : TypeLine s v
    type-line = record {
      checked = l.checked;
      first = omega (arith, type-number, ref-is.0);
      last = omega (arith, type-number, ref-is.1, l.last);
      kind = rw type-number ref-is.2;
    }

    pub type-on : type_at s v ≡ type_on s r
    type-on = ap (type_at s) type-number

  module _ (v : ℕ) (hv : v ≡ Number.number_up_to 65536 (get_or (read_at s (r - 1)).fields 2 [])) where
    pub count-on : (v ≡ length (names_on s r)) × (v ≤ 16)
    count-on =
        let q = count-exact (get_or (read_at s (r - 1)).fields 2 []) parts-good.2 hv in
        (q.0 ∙ sym (names-count s r), q.1)
