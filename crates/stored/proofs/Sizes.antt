-- The listing's `typ` rows give each array's element its size.
use Prim.Native.Nat.{ℕ, suc, ◌+◌, ◌≤◌, ◌<◌, min}
use native.Mathlib.Omega.{arith}
use mathlib.Core.Path.{◌≡◌, refl, ap, ◌∙◌}
use mathlib.Core.Bool.{Bool, true, false, ◌||◌, cond, or-true}
use mathlib.Core.List.{List, [], ◌∷◌, ◌++◌, map}
use lib.ListN.{length, get_or, length-append, length-map}
use lib.Seq.{get_or-append-add}
use Rattle.semantics.specs.Text.{any}
use Rattle.semantics.specs.Tree.{ElemKind, TypeKey, Shape}
use Rattle.semantics.specs.Tree.ElemKind.{k_byte, k_word, k_big, k_real, k_ptr}
use Rattle.semantics.specs.Tree.TypeKey.{adt_key, elem_key, block_key, opaque_key}
use Rattle.semantics.specs.Layout.{Recorded, record_log, recorded_adts}
use Rattle.semantics.specs.Fold.{Const}
use Rattle.semantics.specs.Sheet.{Source, concat_map}
use Rattle.semantics.specs.Global.{Item, Globals}
use Rattle.semantics.specs.Global.Item.{values_item, str_item, array_item, set_item, back_item}
use Rattle.semantics.specs.Types.{same_type_key, array_key, distinct, keys, position, id_of, key_shape, descriptors, opaque_shape}
use Rattle.semantics.specs.Image.{elem_size}
use Rattle.semantics.specs.Listing.{listing}
use Rattle.semantics.proofs.Common.{never}
use Rattle.stored.specs.Reading.{largest_size, most_types, size_in}
use Rattle.stored.proofs.Items.{ValuesInRange, Readable}
use Rattle.stored.proofs.Others.{PlainNames, no-shape, listing-size}
use Rattle.laws.specs.Every.{Every}

-- ---- an element's key equals no other

same-kind : (k l : ElemKind) → same_type_key (elem_key k) (elem_key l) ≡ true → l ≡ k
same-kind k_byte k_byte h = refl
same-kind k_byte k_word h = never h
same-kind k_byte k_big h = never h
same-kind k_byte k_real h = never h
same-kind k_byte k_ptr h = never h
same-kind k_word k_byte h = never h
same-kind k_word k_word h = refl
same-kind k_word k_big h = never h
same-kind k_word k_real h = never h
same-kind k_word k_ptr h = never h
same-kind k_big k_byte h = never h
same-kind k_big k_word h = never h
same-kind k_big k_big h = refl
same-kind k_big k_real h = never h
same-kind k_big k_ptr h = never h
same-kind k_real k_byte h = never h
same-kind k_real k_word h = never h
same-kind k_real k_big h = never h
same-kind k_real k_real h = refl
same-kind k_real k_ptr h = never h
same-kind k_ptr k_byte h = never h
same-kind k_ptr k_word h = never h
same-kind k_ptr k_big h = never h
same-kind k_ptr k_real h = never h
same-kind k_ptr k_ptr h = refl

same-elem : (k : ElemKind) (j : TypeKey) → same_type_key (elem_key k) j ≡ true → j ≡ elem_key k
same-elem k (adt_key n) h = never h
same-elem k (elem_key l) h = ap elem_key (same-kind k l h)
same-elem k (block_key s) h = never h
same-elem k opaque_key h = never h

itself : (k : ElemKind) → same_type_key (elem_key k) (elem_key k) ≡ true
itself k_byte = refl
itself k_word = refl
itself k_big = refl
itself k_real = refl
itself k_ptr = refl

module _ (k : ElemKind) where
  -- whether it is among keys
  abbrev among : List TypeKey → Bool
  among ks = any (same_type_key (elem_key k)) ks

  among-behind : (js ks : List TypeKey) → among ks ≡ true → among (js ++ ks) ≡ true
  among-behind [] ks h = h
  among-behind (j ∷ js) ks h = rw (among-behind js ks h) (or-true (same_type_key (elem_key k) j))

  -- it stays among the distinct ones
  distinct-keeps : (before ks : List TypeKey) → among before ≡ false → among ks ≡ true → among (distinct before ks) ≡ true
  distinct-keeps before [] b h = h
  distinct-keeps before (j ∷ js) b h = go (same_type_key (elem_key k) j) refl h (λ l. distinct-keeps before js b l) (λ l c. distinct-keeps (j ∷ before) js c l)
    where
      skip : (t : Bool) → same_type_key (elem_key k) j ≡ false → among (distinct before js) ≡ true → among (distinct (j ∷ before) js) ≡ true → among (cond t (distinct before js) (j ∷ distinct (j ∷ before) js)) ≡ true
      skip true e x y = x
      skip false e x y = rw (e, y)

      go : (t : Bool) → same_type_key (elem_key k) j ≡ t → t || among js ≡ true → (among js ≡ true → among (distinct before js) ≡ true)
          → (among js ≡ true → among (j ∷ before) ≡ false → among (distinct (j ∷ before) js) ≡ true) → among (cond (any (same_type_key j) before) (distinct before js) (j ∷ distinct (j ∷ before) js)) ≡ true
      go true e h x y =
          let q = same-elem k j e in
          let f : any (same_type_key j) before ≡ false = ap (λ (i : TypeKey). any (same_type_key i) before) q ∙ b in
          rw (f, e)
      go false e h x y = skip (any (same_type_key j) before) e (x h) (y h (rw (e, b)))

  -- its shape stands where its ID says
  key-at : (rs : List Recorded) (ks : List TypeKey) → among ks ≡ true
      → (position (elem_key k) ks < length ks) × ((get_or (map (key_shape rs) ks) (position (elem_key k) ks) no-shape).size ≡ elem_size k)
  key-at rs [] h = never h
  key-at rs (j ∷ js) h = go (same_type_key (elem_key k) j) refl h (λ l. key-at rs js l)
    where
      go : (t : Bool) → same_type_key (elem_key k) j ≡ t → t || among js ≡ true
          → (among js ≡ true → (position (elem_key k) js < length js) × ((get_or (map (key_shape rs) js) (position (elem_key k) js) no-shape).size ≡ elem_size k))
          → (cond t 0 (suc (position (elem_key k) js)) < length (j ∷ js)) × ((get_or (map (key_shape rs) (j ∷ js)) (cond t 0 (suc (position (elem_key k) js))) no-shape).size ≡ elem_size k)
      go true e h ih = (omega arith, ap (λ (i : TypeKey). (key_shape rs i).size) (same-elem k j e))
      go false e h ih = let r = ih h in (omega (arith, r.0), r.1)

  size_small : min (elem_size k) largest_size ≡ elem_size k
  size_small = go k
    where
      go : (k : ElemKind) → min (elem_size k) largest_size ≡ elem_size k
      go k_byte = refl
      go k_word = refl
      go k_big = refl
      go k_real = refl
      go k_ptr = refl

  -- ---- in a listing

  module _ (s : Source) (is : List Item) (used : among (concat_map array_key is) ≡ true) where
    in-keys : among (keys s is) ≡ true
    unfolding keys
    in-keys = distinct-keeps [] (s.needs ++ concat_map array_key is) refl (among-behind s.needs (concat_map array_key is) used)

    abbrev rs : List Recorded
    rs = record_log (recorded_adts s)

    number_is : id_of s is (elem_key k) ≡ suc (suc (length s.frames + position (elem_key k) (keys s is)))
    number_is = omega arith

    number-low : id_of s is (elem_key k) < length (descriptors s is)
    unfolding descriptors
    number-low =
        let r = (key-at rs (keys s is) in-keys).0 in
        omega (arith, length-append s.frames (map (key_shape rs) (keys s is)), length-map (keys s is) (key_shape rs))

    size-there : (get_or (descriptors s is) (id_of s is (elem_key k)) no-shape).size ≡ elem_size k
    unfolding descriptors
    size-there =
        ap (λ (n : ℕ). (get_or (opaque_shape ∷ (opaque_shape ∷ (s.frames ++ map (key_shape rs) (keys s is)))) n no-shape).size) number_is
        ∙ ap (λ (x : Shape). x.size) (get_or-append-add s.frames (map (key_shape rs) (keys s is)) (position (elem_key k) (keys s is)) no-shape)
        ∙ (key-at rs (keys s is) in-keys).1

-- ---- at most 263 descriptors

one : Bool → ℕ
one b = cond b 0 1

-- the kinds of elements that are not among keys
missing : List TypeKey → ℕ
missing ks = one (among k_byte ks) + one (among k_word ks) + one (among k_big ks) + one (among k_real ks) + one (among k_ptr ks)

one-le : (b : Bool) → one b ≤ 1
unfolding one
one-le true = omega arith
one-le false = omega arith

missing-le : (ks : List TypeKey) → missing ks ≤ 5
unfolding missing
missing-le ks =
    let a = one-le (among k_byte ks) in
    let b = one-le (among k_word ks) in
    let c = one-le (among k_big ks) in
    let d = one-le (among k_real ks) in
    let e = one-le (among k_ptr ks) in
    omega arith

-- a kind that is put to them is missing no more
missing-less : (l : ElemKind) (ks : List TypeKey) → among l ks ≡ false → suc (missing (elem_key l ∷ ks)) ≡ missing ks
unfolding missing one
missing-less k_byte ks h = rw h (omega arith)
missing-less k_word ks h = rw h (omega arith)
missing-less k_big ks h = rw h (omega arith)
missing-less k_real ks h = rw h (omega arith)
missing-less k_ptr ks h = rw h (omega arith)

arrays-few : (before : List TypeKey) (is : List Item) → length (distinct before (concat_map array_key is)) ≤ missing before
arrays-few before [] = omega arith
arrays-few before (values_item o vs ∷ is) = arrays-few before is
arrays-few before (str_item o s ∷ is) = arrays-few before is
arrays-few before (array_item o l n ∷ is) = go (among l before) refl (arrays-few before is) (arrays-few (elem_key l ∷ before) is)
  where
    go : (t : Bool) → among l before ≡ t → length (distinct before (concat_map array_key is)) ≤ missing before → length (distinct (elem_key l ∷ before) (concat_map array_key is)) ≤ missing (elem_key l ∷ before)
        → length (cond t (distinct before (concat_map array_key is)) (elem_key l ∷ distinct (elem_key l ∷ before) (concat_map array_key is))) ≤ missing before
    go true e a b = a
    go false e a b = let m = missing-less l before e in omega arith
arrays-few before (set_item o ∷ is) = arrays-few before is
arrays-few before (back_item ∷ is) = arrays-few before is

keys-few : (before js : List TypeKey) (is : List Item) → length (distinct before (js ++ concat_map array_key is)) ≤ length js + 5
keys-few before [] is = let a = arrays-few before is in let b = missing-le before in omega arith
keys-few before (j ∷ js) is = go (any (same_type_key j) before) (keys-few before js is) (keys-few (j ∷ before) js is)
  where
    go : (t : Bool) → length (distinct before (js ++ concat_map array_key is)) ≤ length js + 5 → length (distinct (j ∷ before) (js ++ concat_map array_key is)) ≤ length js + 5
        → length (cond t (distinct before (js ++ concat_map array_key is)) (j ∷ distinct (j ∷ before) (js ++ concat_map array_key is))) ≤ suc (length js) + 5
    go true a b = omega arith
    go false a b = omega arith

pub few-types : (s : Source) (is : List Item) → length s.frames ≤ 128 → length s.needs ≤ 128 → length (descriptors s is) ≤ 263
unfolding descriptors keys
few-types s is f n =
    let rs = record_log (recorded_adts s) in
    let k = keys-few [] s.needs is in
    omega (arith, length-append s.frames (map (key_shape rs) (keys s is)), length-map (keys s is) (key_shape rs))

-- ---- so every item is read back

abbrev pub Ranged : Item → Type 0
Ranged (values_item o vs) = ValuesInRange vs
Ranged (str_item o s) = Unit {0}
Ranged (array_item o k n) = Unit {0}
Ranged (set_item o) = Unit {0}
Ranged back_item = Unit {0}

module _ (s : Source) (cs : List Const) (g : Globals) (plain : PlainNames s cs g) (few : length (descriptors s g.items) ≤ most_types) where
  size-known : (k : ElemKind) → among k (concat_map array_key g.items) ≡ true → size_in (listing s cs g) (id_of s g.items (elem_key k)) ≡ elem_size k
  size-known k h =
      let l = number-low k s g.items h in
      listing-size s cs g plain (id_of s g.items (elem_key k)) (omega arith) l
      ∙ ap (λ (n : ℕ). min n largest_size) (size-there k s g.items h) ∙ size_small k

  readable-from : (is : List Item) → ((k : ElemKind) → among k (concat_map array_key is) ≡ true → among k (concat_map array_key g.items) ≡ true) → Every Ranged is
      → Every (Readable (size_in (listing s cs g)) (id_of s g.items)) is
  readable-from [] f h = tt
  readable-from (values_item o vs ∷ is) f h = (h.0, readable-from is f h.1)
  readable-from (str_item o t ∷ is) f h = (tt, readable-from is f h.1)
  readable-from (array_item o k n ∷ is) f h =
      (size-known k (f k (rw (itself k))), readable-from is (λ l e. f l (rw e (or-true (same_type_key (elem_key l) (elem_key k))))) h.1)
  readable-from (set_item o ∷ is) f h = (tt, readable-from is f h.1)
  readable-from (back_item ∷ is) f h = (tt, readable-from is f h.1)

  pub listing-readable : Every Ranged g.items → Every (Readable (size_in (listing s cs g)) (id_of s g.items)) g.items
  listing-readable h = readable-from g.items (λ k e. e) h
