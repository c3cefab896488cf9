-- The shape of a need's key, by its form.
use mathlib.Core.Path.{◌≡◌, refl, sym, ap, ◌∙◌}
use mathlib.Core.List.{List}
use Rattle.std.specs.Prelude.{Option, None, Some}
use Rattle.chains.specs.Chains.{count_to}
use Prim.Native.Nat.{ℕ, zero, suc, ◌+◌, ◌-◌, ◌<◌}
use native.Mathlib.Omega.{arith}
use lib.ListN.{get_or}
use Rattle.semantics.specs.Tree.TypeKey.{adt_key}
use Rattle.semantics.specs.Layout.{Recorded, last_of}
use Rattle.semantics.specs.Tree.{Shape}
use Rattle.codes.specs.declared.element.Element.{Element}
use Rattle.codes.specs.Kinds.{element_kind}
use Rattle.semantics.specs.Types.{opaque_shape, elem_shape, key_shape, unknown}
use Rattle.lines.specs.Lines.{read_at, form_at}
use Rattle.source.specs.Walk.{field_at}
use Rattle.records.specs.Log.{recorded_at, log_of, no_record, RecordsLogged, Newest}
use Rattle.records.proofs.Keys.{default-same}
use Rattle.type_lines.specs.Needs.{need_at, NeedLine, kind_by}
use Rattle.type_lines.specs.Shapes.{written_shape}
use Rattle.type_lines.proofs.Forms.{form-from}
use Rattle.type_lines.proofs.ByForm.{name-key, block-key, opaque-key, elem-key}
use Rattle.type_row.specs.Row.{word_offsets}

-- a form that is none of the others
opaque-form : (d : ℕ) → d < 8 → (d ≡ 0 → ⊥) → (d ≡ 6 → ⊥) → kind_by (34 + d) ≡ None → d ≡ 7
opaque-form zero h a b e = absurd (a refl)
opaque-form (suc zero) h a b e = cc
opaque-form (suc (suc zero)) h a b e = cc
opaque-form (suc (suc (suc zero))) h a b e = cc
opaque-form (suc (suc (suc (suc zero)))) h a b e = cc
opaque-form (suc (suc (suc (suc (suc zero))))) h a b e = cc
opaque-form (suc (suc (suc (suc (suc (suc zero)))))) h a b e = absurd (b refl)
opaque-form (suc (suc (suc (suc (suc (suc (suc zero))))))) h a b e = refl
opaque-form (suc (suc (suc (suc (suc (suc (suc (suc d)))))))) h a b e = absurd (omega arith)

module _ (s : List ℕ) (i : ℕ) (l : NeedLine s i) (f : ℕ) (hf : f ≡ form_at s i) (rs : List Recorded) where
  pub block-shape : f ≡ 40 → written_shape s i ≡ key_shape rs (need_at s i)
  block-shape e = sym (ap (key_shape rs) (block-key s i l (sym hf ∙ e)))

  pub opaque-shape : kind_by f ≡ None → (f ≡ 34 → ⊥) → (f ≡ 40 → ⊥) → opaque_shape ≡ key_shape rs (need_at s i)
  opaque-shape e a b =
      let g = form-from s i l in
      let z : 34 + (f - 34) ≡ f = omega (arith, g.0, hf) in
      let y = opaque-form (f - 34) (omega (arith, g.1, hf, z)) (λ q. a (omega (arith, z, q))) (λ q. b (omega (arith, z, q))) (rw z e) in
      sym (ap (key_shape rs) (opaque-key s i l (omega (arith, z, y, hf))))

  pub elem-shape : (e : Element) → kind_by f ≡ Some e → elem_shape (element_kind e) ≡ key_shape rs (need_at s i)
  elem-shape e q = sym (ap (key_shape rs) (elem-key s i l e (sym (ap kind_by hf) ∙ q)))

-- ---- records

module _ (s t : List ℕ) (i : ℕ) (l : NeedLine s i) (e : form_at s i ≡ 34) (key : List ℕ) (hk : key ≡ field_at (read_at s i).fields 0) {j : Option ℕ} (x : Newest s key j) where
  named : need_at s i ≡ adt_key key
  named = name-key s i l e ∙ ap adt_key (sym hk)

  unknown-shape : j ≡ None → key_shape (log_of s) (need_at s i) ≡ (unknown key).shape
  unknown-shape z =
      let h : last_of key (unknown key) (log_of s) ≡ unknown key = rw z at (x.last (unknown key)) in
      ap (key_shape (log_of s)) named ∙ ap (λ (r : Recorded). r.shape) h

  pub unknown-size : j ≡ None → 4 ≡ (key_shape (log_of s) (need_at s i)).size
  unknown-size z = sym (ap (λ (q : Shape). q.size) (unknown-shape z))

  pub unknown-words : j ≡ None → word_offsets 0 ≡ (key_shape (log_of s) (need_at s i)).pointers
  unfolding word_offsets
  unknown-words z = sym (ap (λ (q : Shape). q.pointers) (unknown-shape z))

  module _ (m : ℕ) (g : RecordsLogged s t m) {q : ℕ} (z : j ≡ Some q) where
    pub known-low : q < m
    known-low = let y = ap count_to z in omega (arith, x.low, g.count, y)

    pub known-shape : (recorded_at s t q).shape ≡ key_shape (log_of s) (need_at s i)
    known-shape =
        let h : last_of key (unknown key) (log_of s) ≡ get_or (log_of s) q (unknown key) = rw z at (x.last (unknown key)) in
        let d = default-same (log_of s) q no_record (unknown key) (omega (arith, known-low, g.count)) in
        ap (λ (r : Recorded). r.shape) (g.each q known-low ∙ d ∙ sym h) ∙ sym (ap (key_shape (log_of s)) named)
