-- Positions of keys among more keys.
use mathlib.Core.Path.{◌≡◌, refl, sym, ◌∙◌}
use mathlib.Core.List.{List, [], ◌++◌}
use Prim.Native.Nat.{ℕ, suc, ◌<◌}
use native.Mathlib.Omega.{arith}
use lib.ListN.{length, get_or}
use Rattle.semantics.specs.Tree.{ElemKind, TypeKey}
use Rattle.semantics.specs.Tree.TypeKey.{elem_key, opaque_key}
use Rattle.semantics.specs.Sheet.{sheet_source, concat_map}
use Rattle.semantics.specs.Global.{Item}
use Rattle.semantics.specs.Types.{array_key, distinct, position, keys}
use Rattle.checks.specs.Checks.{Outside}
use Rattle.type_keys.specs.Table.{need_position_of, kind_position, Needs, Kinds}
use Rattle.type_keys.proofs.Distinct.{key-member, known_more, from-one-some}
use Rattle.type_keys.proofs.Table.{line-below, position-below}

pub keys-are : (s : List ℕ) (is : List Item) → keys (sheet_source s) is ≡ distinct [] ((sheet_source s).needs ++ concat_map array_key is)
unfolding keys
keys-are s is = refl

module _ (s t : List ℕ) (ks : List TypeKey) (x : Needs s t ks) where
  pub need-position-stays : (ms : List TypeKey) (q : ℕ) → q < length ks → need_position_of t q ≡ position (get_or ks q opaque_key) (distinct [] (ks ++ ms))
  need-position-stays ms q h = x.position q h ∙ sym (known_more (get_or ks q opaque_key) ks ms (key-member opaque_key ks q h)).1

  -- a store behind the needs leaves them
  pub needs-kept : (u : List ℕ) {b : ℕ} → Outside 10624 b t u → Needs s u ks
  needs-kept u o =
      let low : (q : ℕ) → q < length ks → q < 128 = λ q h. omega (arith, x.few) in
      record {
        few = x.few;
        within = λ q h. rw (line-below o q (low q h)) (x.within q h);
        kind = λ q h. rw (line-below o q (low q h)) (x.kind q h);
        key = λ q h. rw (line-below o q (low q h)) (x.key q h);
        position = λ q h. position-below o q (low q h) ∙ x.position q h;
      }

pub kind-position-stays : (t : List ℕ) (ks ms : List TypeKey) (count : ℕ) (k : ElemKind) → Kinds t ks count → (p : ℕ) → suc p ≡ kind_position t k → p ≡ position (elem_key k) (distinct [] (ks ++ ms))
kind-position-stays t ks ms count k x p h =
    let a = from-one-some (elem_key k) (distinct [] ks) (λ z. omega (arith, x.position k)) in
    let e : suc p ≡ suc (position (elem_key k) (distinct [] ks)) = h ∙ x.position k ∙ rw a in
    let g = (known_more (elem_key k) ks ms a).1 in
    omega (arith, e, g)
