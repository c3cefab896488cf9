-- The positions of kinds of elements, with one key more.
use mathlib.Core.Path.{◌≡◌, refl, sym, ◌∙◌}
use mathlib.Core.Bool.{cond}
use mathlib.Core.List.{List, [], ◌∷◌, ◌++◌}
use Prim.Native.Nat.{ℕ, suc, ◌+◌, ◌≤◌}
use native.Mathlib.Omega.{arith}
use lib.Dec.{eqb}
use lib.ListN.{length}
use borrow.Author.Tests.{eq-eqb, ne_eqb}
use Rattle.semantics.specs.Tree.{ElemKind, TypeKey}
use Rattle.semantics.specs.Tree.ElemKind.{k_byte, k_word, k_big, k_real, k_ptr}
use Rattle.semantics.specs.Tree.TypeKey.{elem_key}
use Rattle.semantics.specs.Array.{kind_number}
use Rattle.semantics.specs.Types.{same_type_key, distinct, position}
use Rattle.type_lines.proofs.Codes.{elems-are, same_self}
use Rattle.type_keys.specs.Table.{kind_position, kinds_used, kind_entered, Kinds}
use Rattle.type_keys.proofs.Distinct.{position-none, length_more, from-one-more, known_same, known-length, from-one-some, from-one-none, distinct_more}
use Rattle.type_keys.proofs.Table.{kind-entered}

pub keys-more : (k : TypeKey) (l : List TypeKey) (p keys : ℕ) → p ≡ position k (distinct [] l) → keys ≡ length (distinct [] l) → length (distinct [] (l ++ (k ∷ []))) ≡ cond (eqb p keys) (suc keys) keys
keys-more k l p keys hp hk = rw (distinct_more k l, hp, hk) (length_more k (distinct [] l))

-- where the bytes of kinds are as they were but for the kind of the key k
pub kinds-more : {t u : List ℕ} {l : List TypeKey} {keys : ℕ} (k : TypeKey) (more : ℕ) → Kinds t l keys
    → ((e : ElemKind) → kind_position u e ≡ cond (same_type_key (elem_key e) k) (suc (position k (distinct [] l))) (kind_position t e))
    → more ≡ length (distinct [] (l ++ (k ∷ []))) → more ≤ 128 + kinds_used u → Kinds u (l ++ (k ∷ [])) more
kinds-more {t} {u} {l} {keys} k more x h g w = record {
  count = g;
  position = λ e. h e ∙ rw (distinct_more k l, from-one-more k (distinct [] l) (elem_key e), x.position e);
  few = w;
}

used-more : (t u : List ℕ) (k : ElemKind) → kind_position t k ≡ 0 → (kind_position u k ≡ 0 → ⊥) → ((j : ElemKind) → (kind_number j ≡ kind_number k → ⊥) → kind_position u j ≡ kind_position t j) → kinds_used u ≡ suc (kinds_used t)
unfolding kinds_used
used-more t u k_byte z p o = rw (ne_eqb (kind_position u k_byte) 0 p, z, o k_word (λ e. omega arith), o k_big (λ e. omega arith), o k_real (λ e. omega arith), o k_ptr (λ e. omega arith)) (omega arith)
used-more t u k_word z p o = rw (ne_eqb (kind_position u k_word) 0 p, z, o k_byte (λ e. omega arith), o k_big (λ e. omega arith), o k_real (λ e. omega arith), o k_ptr (λ e. omega arith)) (omega arith)
used-more t u k_big z p o = rw (ne_eqb (kind_position u k_big) 0 p, z, o k_byte (λ e. omega arith), o k_word (λ e. omega arith), o k_real (λ e. omega arith), o k_ptr (λ e. omega arith)) (omega arith)
used-more t u k_real z p o = rw (ne_eqb (kind_position u k_real) 0 p, z, o k_byte (λ e. omega arith), o k_word (λ e. omega arith), o k_big (λ e. omega arith), o k_ptr (λ e. omega arith)) (omega arith)
used-more t u k_ptr z p o = rw (ne_eqb (kind_position u k_ptr) 0 p, z, o k_byte (λ e. omega arith), o k_word (λ e. omega arith), o k_big (λ e. omega arith), o k_real (λ e. omega arith)) (omega arith)

module _ (t : List ℕ) (k : ElemKind) (l : List TypeKey) (keys : ℕ) (x : Kinds t l keys) where
  pub kind-known : (kind_position t k ≡ 0 → ⊥) → Kinds t (l ++ (elem_key k ∷ [])) keys
  kind-known h =
      let a = from-one-some (elem_key k) (distinct [] l) (λ z. h (x.position k ∙ z)) in
      kinds-more (elem_key k) keys x
      (λ e. x.position e ∙ known_same (elem_key k) (distinct [] l) a (elem_key e) ∙ rw (← x.position e))
      (x.count ∙ rw (distinct_more (elem_key k) l) (sym (known-length (elem_key k) (distinct [] l) a)))
      x.few

  module _ (room : 62464 ≤ length t) (z : kind_position t k ≡ 0) (u : List ℕ) (hu : u ≡ kind_entered t k keys) where
    own-position : keys ≡ position (elem_key k) (distinct [] l)
    own-position = x.count ∙ sym (position-none (elem_key k) (distinct [] l) (from-one-none (elem_key k) (distinct [] l) (sym (x.position k) ∙ z)))

    entered_at : (j : ElemKind) → kind_position u j ≡ cond (same_type_key (elem_key j) (elem_key k)) (suc keys) (kind_position t j)
    entered_at j = rw hu (kind-entered t room k keys j)

    pub kind-new : Kinds u (l ++ (elem_key k ∷ [])) (keys + 1)
    kind-new =
        kinds-more (elem_key k) (keys + 1) x
        (λ e. entered_at e ∙ rw own-position)
        (sym (keys-more (elem_key k) l keys keys own-position x.count ∙ rw (eq-eqb keys keys refl) (omega arith)))
        (omega (arith, x.few, used-more t u k z (λ q. let y : suc keys ≡ 0 = sym (entered_at k ∙ rw (same_self (elem_key k))) ∙ q in absurd (omega arith)) (λ j ne. entered_at j ∙ rw (elems-are j k, ne_eqb (kind_number j) (kind_number k) ne))))
