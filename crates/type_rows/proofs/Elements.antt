-- The keys behind those of needs: elements of arrays, each at its own position.
use mathlib.Core.Path.{◌≡◌, refl, sym, ap, ◌∙◌}
use mathlib.Core.Bool.{Bool, true, false, cond}
use mathlib.Core.List.{List, [], ◌∷◌, ◌++◌, append_assoc, append-nil}
use Prim.Native.Nat.{ℕ, zero, suc, ◌+◌, ◌-◌, ◌≤◌, ◌<◌}
use native.Mathlib.Omega.{arith}
use lib.Dec.{ltb}
use lib.ListN.{length, take, drop, get_or, length-append, length-drop, get_or-append}
use lib.Seq.{get_or_at, get_or-drop, take-suc, take_all}
use borrow.Author.Tests.{ltb-true, ltb-false, eqb-true}
use Rattle.semantics.specs.Text.{any}
use Rattle.semantics.specs.Tree.{ElemKind, TypeKey}
use Rattle.semantics.specs.Tree.ElemKind.{k_byte, k_word, k_big, k_real, k_ptr}
use Rattle.semantics.specs.Tree.TypeKey.{elem_key, opaque_key}
use Rattle.semantics.specs.Sheet.{concat_map}
use Rattle.semantics.specs.Array.{kind_number}
use Rattle.semantics.specs.Global.{Item}
use Rattle.semantics.specs.Global.Item.{values_item, str_item, array_item, set_item, back_item}
use Rattle.semantics.specs.Types.{same_type_key, distinct, position, array_key, elem_shape, key_shape}
use Rattle.checks.specs.Checks.{Kept}
use Rattle.checks.proofs.Kept.{kept_less}
use Rattle.records.specs.Log.{log_of}
use Rattle.type_keys.specs.Table.{kind_position, position_from_one, Kinds}
use Rattle.type_keys.proofs.Distinct.{new_key, position-none, position-new, position-known, distinct_more, from-one-some}
use Rattle.type_keys.proofs.Table.{kind-kept}
use Rattle.type_lines.proofs.Codes.{elems-are}
use Rattle.write.specs.declared.Writer.{Writer}
use Rattle.type_row.specs.Row.{TypesWrote}
use Rattle.type_rows.specs.Rows.{shapes_of}
use Rattle.type_rows.proofs.Wrotes.{types-none, keys-then}
use Rattle.type_row.proofs.Maps.{types-as}
use Rattle.semantics.proofs.Common.{never}

-- ---- positions

module _ (k : TypeKey) where
  any_of : (l : List TypeKey) → position k l < length l → any (same_type_key k) l ≡ true
  any_of l h = go (any (same_type_key k) l) refl
    where
      go : (t : Bool) → any (same_type_key k) l ≡ t → t ≡ true
      go true e = refl
      go false e = absurd (omega (arith, position-none k l e))

  position_at : (l : List TypeKey) → any (same_type_key k) l ≡ true → same_type_key k (get_or l (position k l) opaque_key) ≡ true
  position_at [] h = never h
  position_at (x ∷ l) h = go (same_type_key k x) refl (position_at l)
    where
      go : (t : Bool) → same_type_key k x ≡ t → (any (same_type_key k) l ≡ true → same_type_key k (get_or l (position k l) opaque_key) ≡ true) → same_type_key k (get_or (x ∷ l) (cond (same_type_key k x) 0 (suc (position k l))) opaque_key) ≡ true
      go true e ih = rw e e
      go false e ih = rw e (ih (rw e at h))

-- each key stands at its own position
NoDup : List TypeKey → Type 0
NoDup l = (p : ℕ) → p < length l → position (get_or l p opaque_key) l ≡ p

nodup-more : (k : TypeKey) (l : List TypeKey) → NoDup l → NoDup (l ++ new_key k l)
unfolding NoDup
nodup-more k l d = go (any (same_type_key k) l) refl
  where
    go : (t : Bool) → any (same_type_key k) l ≡ t → (p : ℕ) → p < length (l ++ cond t [] (k ∷ [])) → position (get_or (l ++ cond t [] (k ∷ [])) p opaque_key) (l ++ cond t [] (k ∷ [])) ≡ p
    go true e p h = rw (append-nil l) (d p (rw (append-nil l) at h))
    go false e p h = by (ltb p (length l)) refl
      where
        by : (b : Bool) → ltb p (length l) ≡ b → position (get_or (l ++ (k ∷ [])) p opaque_key) (l ++ (k ∷ [])) ≡ p
        by true q =
            let low = ltb-true p (length l) q in
            let s = d p low in
            rw (get_or-append l (k ∷ []) opaque_key p low) (position-known (get_or l p opaque_key) l (k ∷ []) (any_of (get_or l p opaque_key) l (omega (arith, s))) ∙ s)
        by false q =
            let z : length l ≡ p = omega (arith, ltb-false p (length l) q, h, length-append l (k ∷ [])) in
            rw (get_or_at l k [] opaque_key p z) (position-new k l [] e ∙ z)

nodup-all : (l ms : List TypeKey) → NoDup (distinct [] l) → NoDup (distinct [] (l ++ ms))
nodup-all l [] d = rw (append-nil l) d
nodup-all l (m ∷ ms) d =
    let z : (l ++ (m ∷ [])) ++ ms ≡ l ++ (m ∷ ms) = append_assoc l (m ∷ []) ms in
    rw (← z) (nodup-all (l ++ (m ∷ [])) ms (rw (distinct_more m l) (nodup-more m (distinct [] l) d)))

no-dup : (l : List TypeKey) → NoDup (distinct [] l)
unfolding NoDup
no-dup l = nodup-all [] l (λ p h. absurd (omega arith))

own_at : (l : List TypeKey) (p : ℕ) → p < length (distinct [] l) → position (get_or (distinct [] l) p opaque_key) (distinct [] l) ≡ p
unfolding NoDup
own_at l p h = no-dup l p h

-- more keys change none
prefix : (l ms : List TypeKey) (p : ℕ) → p < length (distinct [] l) → get_or (distinct [] (l ++ ms)) p opaque_key ≡ get_or (distinct [] l) p opaque_key
prefix l [] p h = rw (append-nil l)
prefix l (m ∷ ms) p h =
    let z : (l ++ (m ∷ [])) ++ ms ≡ l ++ (m ∷ ms) = append_assoc l (m ∷ []) ms in
    let e = distinct_more m l in
    let k : p < length (distinct [] (l ++ (m ∷ []))) = omega (arith, ap length e, length-append (distinct [] l) (new_key m (distinct [] l))) in
    rw (← z) (prefix (l ++ (m ∷ [])) ms p k ∙ rw e (get_or-append (distinct [] l) (new_key m (distinct [] l)) opaque_key p h))

-- ---- behind the keys of needs stand elements

record ElemAt (l : List TypeKey) (p : ℕ) : Type 0 where
  kind : ElemKind
  is : get_or l p opaque_key ≡ elem_key kind

new-at : (k : TypeKey) (l : List TypeKey) (p : ℕ) → length l ≤ p → p < length (l ++ new_key k l) → get_or (l ++ new_key k l) p opaque_key ≡ k
new-at k l p h = go (any (same_type_key k) l)
  where
    go : (t : Bool) → p < length (l ++ cond t [] (k ∷ [])) → get_or (l ++ cond t [] (k ∷ [])) p opaque_key ≡ k
    go true q = absurd (omega (arith, q, ap length (append-nil l)))
    go false q = get_or_at l k [] opaque_key p (omega (arith, q, length-append l (k ∷ [])))

elems : (ls : List TypeKey) (is : List Item) (p : ℕ) → length (distinct [] ls) ≤ p → p < length (distinct [] (ls ++ concat_map array_key is)) → ElemAt (distinct [] (ls ++ concat_map array_key is)) p
elems ls [] p h k = absurd (omega (arith, k, ap (λ (l : List TypeKey). length (distinct [] l)) (append-nil ls)))
elems ls (values_item o vs ∷ is) p h k = elems ls is p h k
elems ls (str_item o b ∷ is) p h k = elems ls is p h k
elems ls (set_item o ∷ is) p h k = elems ls is p h k
elems ls (back_item ∷ is) p h k = elems ls is p h k
elems ls (array_item o e n ∷ is) p h k =
    let es = concat_map array_key is in
    let z : (ls ++ (elem_key e ∷ [])) ++ es ≡ ls ++ (elem_key e ∷ es) = append_assoc ls (elem_key e ∷ []) es in
    rw (← z) (go (ltb p (length (distinct [] (ls ++ (elem_key e ∷ []))))) refl (λ q. elems (ls ++ (elem_key e ∷ [])) is p q (rw (← z) at k)))
  where
    go : (t : Bool) → ltb p (length (distinct [] (ls ++ (elem_key e ∷ [])))) ≡ t → (length (distinct [] (ls ++ (elem_key e ∷ []))) ≤ p → ElemAt (distinct [] ((ls ++ (elem_key e ∷ [])) ++ concat_map array_key is)) p)
        → ElemAt (distinct [] ((ls ++ (elem_key e ∷ [])) ++ concat_map array_key is)) p
    go true q ih =
        let low = ltb-true p (length (distinct [] (ls ++ (elem_key e ∷ [])))) q in
        let d = distinct_more (elem_key e) ls in
        record { kind = e; is = prefix (ls ++ (elem_key e ∷ [])) (concat_map array_key is) p low ∙ rw d (new-at (elem_key e) (distinct [] ls) p h (rw d at low)) }
    go false q ih = ih (ltb-false p (length (distinct [] (ls ++ (elem_key e ∷ [])))) q)

-- ---- which kind stands at a position

kind_back : ℕ → ElemKind
kind_back zero = k_byte
kind_back (suc zero) = k_word
kind_back (suc (suc zero)) = k_big
kind_back (suc (suc (suc zero))) = k_real
kind_back (suc (suc (suc (suc r)))) = k_ptr

back : (k : ElemKind) → kind_back (kind_number k) ≡ k
unfolding kind_back
back k_byte = refl
back k_word = refl
back k_big = refl
back k_real = refl
back k_ptr = refl

module _ (t : List ℕ) (ls : List TypeKey) (is : List Item) (keys : ℕ) (x : Kinds t (ls ++ concat_map array_key is) keys) (p : ℕ) (h : length (distinct [] ls) ≤ p) (k : p < keys) where
  abbrev K : List TypeKey
  K = distinct [] (ls ++ concat_map array_key is)

  at : ElemAt (distinct [] (ls ++ concat_map array_key is)) p
  at = elems ls is p h (omega (arith, x.count))

  at_position : kind_position t at.kind ≡ p + 1
  at_position =
      let z : position (elem_key at.kind) K ≡ p = rw at.is at (own_at (ls ++ concat_map array_key is) p (omega (arith, x.count))) in
      let a = any_of (elem_key at.kind) K (omega (arith, z, x.count)) in
      x.position at.kind ∙ rw (a, z) (omega arith)

  kind-is : (m : ElemKind) → kind_position t m ≡ p + 1 → m ≡ at.kind
  kind-is m found =
      let g : position_from_one (elem_key m) K ≡ p + 1 = sym (x.position m) ∙ found in
      let a = from-one-some (elem_key m) K (λ z. omega (arith, g)) in
      let y : suc (position (elem_key m) K) ≡ p + 1 = rw a at g in
      let w : same_type_key (elem_key m) (get_or K p opaque_key) ≡ true = (let v : position (elem_key m) K ≡ p = omega (arith, y) in rw v at (position_at (elem_key m) K a)) in
      let e = eqb-true (kind_number m) (kind_number at.kind) (sym (elems-are m at.kind) ∙ (rw at.is at w)) in
      sym (back m) ∙ ap kind_back e ∙ back at.kind

  -- so the row that is written is that of the key there
  elem-row : (s : List ℕ) (m : ElemKind) → kind_position t m ≡ p + 1 → {a b : ℕ} {v w : Writer} {y z : List ℕ} → TypesWrote ((elem_shape m) ∷ []) a b v w y z
      → TypesWrote ((key_shape (log_of s) (get_or (distinct [] (ls ++ concat_map array_key is)) p opaque_key)) ∷ []) a b v w y z
  elem-row s m found row = types-as (ap elem_shape (kind-is m found) ∙ sym (ap (key_shape (log_of s)) at.is)) row

-- ---- row by row

-- the first rows of keys behind those of ls, with IDs from a up to b
abbrev pub KindRows : ℕ → ℕ → ℕ → Writer → Writer → List ℕ → List ℕ → ℕ → Type 0
KindRows base a b v w t u keys =
    (s : List ℕ) (ls : List TypeKey) (is : List Item) → a ≡ base + length (distinct [] ls) → Kinds t (ls ++ concat_map array_key is) keys
    → TypesWrote (shapes_of s (take (b - a) (drop (length (distinct [] ls)) (distinct [] (ls ++ concat_map array_key is))))) a b v w t u

pub kinds-start : (base keys a : ℕ) {w : Writer} {t : List ℕ} → KindRows base a a w w t t keys
kinds-start base keys a s ls is e x = let z : a - a ≡ 0 = omega arith in rw z types-none

module _ (base keys a b : ℕ) {v w : Writer} {t u : List ℕ} (lo : a ≤ b) (hi : b < base + keys) (h : base ≤ a) (rows : KindRows base a b v w t u keys) (kept : Kept 49152 t u) where
  low-kept : Kept 10629 t u
  low-kept = kept_less (omega arith) kept

  pub kinds-next : (kind : ElemKind) {n : ℕ} {y : Writer} {z : List ℕ} → kind_position u kind ≡ b - base + 1 → TypesWrote ((elem_shape kind) ∷ []) b n w y u z → KindRows base a (b + 1) v y t z keys
  kinds-next kind found row s ls is g x =
      let l = length (distinct [] ls) in
      let K = distinct [] (ls ++ concat_map array_key is) in
      let j = b - a in
      let z : b + 1 - a ≡ suc j = omega (arith, lo) in
      let y : l + j ≡ b - base = omega (arith, lo, g) in
      let low : j < length (drop l K) = omega (arith, length-drop l K, x.count, lo, g, hi) in
      let o : get_or (drop l K) j opaque_key ≡ get_or K (b - base) opaque_key = get_or-drop l K j opaque_key ∙ ap (λ (i : ℕ). get_or K i opaque_key) y in
      let one = elem-row t ls is keys x (b - base) (omega (arith, lo, g)) (omega (arith, hi, h, lo)) s kind (sym (kind-kept low-kept kind) ∙ found) row in
      rw (z, take-suc (drop l K) j opaque_key low, o) (keys-then s (take j (drop l K)) (get_or K (b - base) opaque_key) (rows s ls is g x) (rw row.id at one))

  -- each position has a kind
  pub kinds-none : ((k : ElemKind) → kind_position u k ≡ b - base + 1 → ⊥) → KindRows base a (b + 1) v w t u keys
  kinds-none none s ls is g x =
      let i : length (distinct [] ls) ≤ b - base = omega (arith, lo, g) in
      let j : b - base < keys = omega (arith, hi, h, lo) in
      absurd (none (at t ls is keys x (b - base) i j).kind (kind-kept low-kept (at t ls is keys x (b - base) i j).kind ∙ at_position t ls is keys x (b - base) i j))

pub kinds-end : (base keys a b : ℕ) {v w : Writer} {t u : List ℕ} → a ≤ b → base + keys ≤ b → KindRows base a b v w t u keys
    → (s : List ℕ) (ls : List TypeKey) (is : List Item) → a ≡ base + length (distinct [] ls) → Kinds t (ls ++ concat_map array_key is) keys
    → TypesWrote (shapes_of s (drop (length (distinct [] ls)) (distinct [] (ls ++ concat_map array_key is)))) a b v w t u
kinds-end base keys a b lo hi rows s ls is g x =
    let l = length (distinct [] ls) in
    let K = distinct [] (ls ++ concat_map array_key is) in
    let e : take (b - a) (drop l K) ≡ drop l K = take_all (b - a) (drop l K) (omega (arith, length-drop l K, x.count, lo, g, hi)) in
    rw e at (rows s ls is g x)
