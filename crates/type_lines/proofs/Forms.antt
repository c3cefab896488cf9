-- The key of a `need` line, by its form.
use mathlib.Core.Path.{◌≡◌, refl, sym, ap, ◌∙◌}
use mathlib.Core.Bool.{Bool, true, false, cond, ◌&&◌}
use mathlib.Core.List.{List, [], ◌∷◌}
use Prim.Native.Nat.{ℕ, zero, suc, ◌+◌, ◌-◌, ◌≤◌, ◌<◌}
use native.Mathlib.Omega.{arith}
use lib.Dec.{leb, eqb}
use lib.ListN.{length, get_or}
use borrow.Author.Tests.{leb-true, ne_eqb, eq-eqb}
use Rattle.semantics.specs.Text.{head_part}
use Rattle.semantics.specs.Tree.{Node, ElemKind, TypeKey}
use Rattle.semantics.specs.Tree.ElemKind.{k_byte, k_word, k_big, k_real, k_ptr}
use Rattle.semantics.specs.Tree.TypeKey.{adt_key, elem_key, block_key, opaque_key}
use Rattle.semantics.specs.Form as Form
use Rattle.semantics.specs.Form.{Row, letter, forms, make}
use Rattle.semantics.specs.Array.{kind_number}
use Rattle.semantics.specs.Types.{same_type_key}
use Rattle.form.specs.Table.{kind_at, row_node}
use Rattle.form.proofs.Table.{row-count, Each, done, ◌also◌, each_at}
use Rattle.lines.specs.Lines.{lines_in, read_at, nodes_in, form_at}
use Rattle.lines.proofs.Line.{form-low, kind-is}
use Rattle.refs.proofs.Nodes.{node-at}
use Rattle.checks.specs.Checks.{Checked}
use Rattle.semantics.proofs.Common.{both}
use Rattle.source.specs.Walk.{declares_at, field_at, frame_of}
use Rattle.type_lines.proofs.Codes.{eq_z-pos}
use Rattle.type_lines.specs.Needs.{first_key, need_at, NeedLine}

-- ---- `need` lines are the forms from 34 on

from : ℕ → ℕ → ℕ → List Row → Bool
from k a i [] = true
from k a i (r ∷ rs) = cond (eqb (letter r.kind) k) (leb a i) true && from k a (suc i) rs

from_at : (k a : ℕ) (rs : List Row) (i j : ℕ) → from k a i rs ≡ true → j < length rs → letter (get_or rs j Form.no_row).kind ≡ k → a ≤ i + j
unfolding from
from_at k a [] i j h l e = absurd (omega arith)
from_at k a (r ∷ rs) i zero h l e =
    let p : leb a i ≡ true = rw (eq-eqb (letter r.kind) k e) at (both (cond (eqb (letter r.kind) k) (leb a i) true) (from k a (suc i) rs) h).0 in
    omega (arith, leb-true a i p)
from_at k a (r ∷ rs) i (suc j) h l e =
    let q = from_at k a rs (suc i) j (both (cond (eqb (letter r.kind) k) (leb a i) true) (from k a (suc i) rs) h).1 (omega arith) e in
    omega arith

need-form : (f : ℕ) → f < 42 → kind_at f ≡ 78 → 34 ≤ f
unfolding from forms
need-form f h e = omega (arith, from_at 78 34 forms 0 f refl (omega (arith, row-count)) e)

-- ---- what each form asks for

abbrev NeedsOne : Row → Type 0
NeedsOne r = (ns : List Node) (fs : List (List ℕ)) → (make r.parts r.make ns fs).declares.needs ≡ cond (eqb (letter r.kind) 78) (first_key (make r.parts r.make ns fs).declares.needs ∷ []) []

all-need : Each NeedsOne forms
unfolding forms
all-need =
    (λ ns fs. refl) also (λ ns fs. refl) also (λ ns fs. refl) also (λ ns fs. refl) also (λ ns fs. refl) also (λ ns fs. refl) also
    (λ ns fs. refl) also (λ ns fs. refl) also (λ ns fs. refl) also (λ ns fs. refl) also (λ ns fs. refl) also (λ ns fs. refl) also
    (λ ns fs. refl) also (λ ns fs. refl) also (λ ns fs. refl) also (λ ns fs. refl) also (λ ns fs. refl) also (λ ns fs. refl) also
    (λ ns fs. refl) also (λ ns fs. refl) also (λ ns fs. refl) also (λ ns fs. refl) also (λ ns fs. refl) also (λ ns fs. refl) also
    (λ ns fs. refl) also (λ ns fs. refl) also (λ ns fs. refl) also (λ ns fs. refl) also (λ ns fs. refl) also (λ ns fs. refl) also
    (λ ns fs. refl) also (λ ns fs. refl) also (λ ns fs. refl) also (λ ns fs. refl) also (λ ns fs. refl) also (λ ns fs. refl) also
    (λ ns fs. refl) also (λ ns fs. refl) also (λ ns fs. refl) also (λ ns fs. refl) also (λ ns fs. refl) also (λ ns fs. refl) also done

-- the kind of element of `need,elem`, from form 35 on
abbrev pub elem_by : ℕ → ElemKind
elem_by f = cond (eqb f 35) k_word (cond (eqb f 36) k_byte (cond (eqb f 37) k_big (cond (eqb f 38) k_real k_ptr)))

abbrev pub key_by : ℕ → List Node → List (List ℕ) → TypeKey
key_by f ns fs =
    cond (eqb f 34) (adt_key (field_at fs 0))
    (cond (eqb f 40) (block_key (frame_of ns fs))
    (cond (eqb f 41) opaque_key (elem_key (elem_by f))))

module _ (ns : List Node) (fs : List (List ℕ)) where
  head-field : (gs : List (List ℕ)) → head_part gs ≡ get_or gs 0 []
  head-field [] = refl
  head-field (g ∷ gs) = refl

  block-key : (gs : List (List ℕ)) → first_key (row_node ns 40 gs).declares.needs ≡ block_key (frame_of ns gs)
  unfolding forms
  block-key [] = refl
  block-key (a ∷ []) = refl
  block-key (a ∷ (b ∷ gs)) = refl

  key_of : (d : ℕ) → d < 8 → first_key (row_node ns (34 + d) fs).declares.needs ≡ key_by (34 + d) ns fs
  unfolding forms
  key_of zero h = ap adt_key (head-field fs)
  key_of (suc zero) h = refl
  key_of (suc (suc zero)) h = refl
  key_of (suc (suc (suc zero))) h = refl
  key_of (suc (suc (suc (suc zero)))) h = refl
  key_of (suc (suc (suc (suc (suc zero))))) h = refl
  key_of (suc (suc (suc (suc (suc (suc zero)))))) h = block-key fs
  key_of (suc (suc (suc (suc (suc (suc (suc zero))))))) h = refl
  key_of (suc (suc (suc (suc (suc (suc (suc (suc d)))))))) h = absurd (omega arith)

-- ---- what a line needs

module _ (s : List ℕ) (c : Checked s) (i : ℕ) (h : i < lines_in s) where
  pub needs-line : (declares_at (nodes_in s) i).needs ≡ cond (eqb (letter (read_at s i).form.kind) 78) (need_at s i ∷ []) []
  unfolding need_at
  needs-line =
      let e = ap (λ (m : Node). m.declares.needs) (node-at s c.whole c.good i h) in
      let g = each_at NeedsOne forms all-need (form_at s i) (omega (arith, row-count, form-low s c.whole i h)) (nodes_in s) (read_at s i).fields in
      e ∙ g ∙ rw (kind-is s c.whole i h, ← e)

module _ (s : List ℕ) (i : ℕ) (l : NeedLine s i) where
  pub form-from : (34 ≤ form_at s i) × (form_at s i < 42)
  form-from =
      let w = form-low s l.checked.whole i l.within in
      (need-form (form_at s i) w (sym (kind-is s l.checked.whole i l.within) ∙ l.kind), w)

  pub key-is : need_at s i ≡ key_by (form_at s i) (nodes_in s) (read_at s i).fields
  unfolding need_at
  key-is =
      let e = ap (λ (m : Node). first_key m.declares.needs) (node-at s l.checked.whole l.checked.good i l.within) in
      let z : 34 + (form_at s i - 34) ≡ form_at s i = omega (arith, form-from.0) in
      e ∙ rw z at (key_of (nodes_in s) (read_at s i).fields (form_at s i - 34) (omega (arith, form-from.1)))

-- ---- keys of two forms are not the same

-- a number for each form
key_tag : TypeKey → ℕ
key_tag (adt_key k) = 0
key_tag (elem_key k) = suc (kind_number k)
key_tag (block_key s) = 6
key_tag opaque_key = 7

tags-apart : (j k : TypeKey) → (key_tag j ≡ key_tag k → ⊥) → same_type_key j k ≡ false
unfolding key_tag
tags-apart (adt_key a) (adt_key b) h = absurd (h refl)
tags-apart (adt_key a) (elem_key b) h = refl
tags-apart (adt_key a) (block_key b) h = refl
tags-apart (adt_key a) opaque_key h = refl
tags-apart (elem_key a) (adt_key b) h = refl
tags-apart (elem_key a) (elem_key b) h = rw (eq_z-pos (kind_number a) (kind_number b), ne_eqb (kind_number a) (kind_number b) (λ e. h (ap suc e)))
tags-apart (elem_key a) (block_key b) h = refl
tags-apart (elem_key a) opaque_key h = refl
tags-apart (block_key a) (adt_key b) h = refl
tags-apart (block_key a) (elem_key b) h = refl
tags-apart (block_key a) (block_key b) h = absurd (h refl)
tags-apart (block_key a) opaque_key h = refl
tags-apart opaque_key (adt_key b) h = refl
tags-apart opaque_key (elem_key b) h = refl
tags-apart opaque_key (block_key b) h = refl
tags-apart opaque_key opaque_key h = absurd (h refl)

-- the form of a tag
form_by : ℕ → ℕ
form_by g = cond (eqb g 0) 34 (cond (eqb g 1) 36 (cond (eqb g 2) 35 (cond (eqb g 3) 37 (cond (eqb g 4) 38 (cond (eqb g 5) 39 (cond (eqb g 6) 40 41))))))

form-back : (ns : List Node) (fs : List (List ℕ)) (d : ℕ) → d < 8 → form_by (key_tag (key_by (34 + d) ns fs)) ≡ 34 + d
unfolding key_tag form_by
form-back ns fs zero h = refl
form-back ns fs (suc zero) h = refl
form-back ns fs (suc (suc zero)) h = refl
form-back ns fs (suc (suc (suc zero))) h = refl
form-back ns fs (suc (suc (suc (suc zero)))) h = refl
form-back ns fs (suc (suc (suc (suc (suc zero))))) h = refl
form-back ns fs (suc (suc (suc (suc (suc (suc zero)))))) h = refl
form-back ns fs (suc (suc (suc (suc (suc (suc (suc zero))))))) h = refl
form-back ns fs (suc (suc (suc (suc (suc (suc (suc (suc d)))))))) h = absurd (omega arith)

module _ (s : List ℕ) (i j : ℕ) (a : NeedLine s i) (b : NeedLine s j) where
  pub forms-apart : (form_at s i ≡ form_at s j → ⊥) → same_type_key (need_at s i) (need_at s j) ≡ false
  forms-apart h =
      let back : (k : ℕ) (l : NeedLine s k) → form_by (key_tag (need_at s k)) ≡ form_at s k =
      λ k l.
      let z : 34 + (form_at s k - 34) ≡ form_at s k = omega (arith, (form-from s k l).0) in
      rw (key-is s k l) (rw z at (form-back (nodes_in s) (read_at s k).fields (form_at s k - 34) (omega (arith, (form-from s k l).1)))) in
      tags-apart (need_at s i) (need_at s j) (λ e. h (sym (back i a) ∙ ap form_by e ∙ back j b))
