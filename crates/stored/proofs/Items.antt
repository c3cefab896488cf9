-- The rows of items are read back as what is stored of the items.
use Prim.Native.Nat.{ℕ, zero, suc, ◌-◌, ◌/◌, ◌%◌, ◌^◌, ◌<◌}
use native.Mathlib.Omega.{arith}
use mathlib.Core.Path.{◌≡◌, refl, ap, ◌∙◌}
use mathlib.Core.Bool.{Bool, true, false, cond}
use mathlib.Core.List.{List, [], ◌∷◌, ◌++◌, map, append_assoc}
use lib.ListN.{length, get_or}
use lib.IntN.{ℤ, pos}
use lib.Ieee.{Float, binary64, to_bits}
use borrow.Author.Tests.{le-leb}
use Rattle.semantics.specs.Text.{Bytes, bytes, or_else, decimal, decimalℤ, hex_of, big_endian}
use Rattle.semantics.specs.Form.{between}
use Rattle.semantics.specs.Tree.{TypeKey}
use Rattle.semantics.specs.Tree.TypeKey.{elem_key}
use Rattle.semantics.specs.Fold.{bits64, real_bytes}
use Rattle.semantics.specs.Sheet.{concat_map}
use Rattle.semantics.specs.Global.{Values, Item}
use Rattle.semantics.specs.Global.Values.{byte_values, word_values, big_values, real_values}
use Rattle.semantics.specs.Global.Item.{values_item, str_item, array_item, set_item, back_item}
use Rattle.semantics.specs.Listing.{real_text, item_fields, item_row}
use Rattle.semantics.specs.Image.{elem_size, Replay, replay_item, replay_all}
use Rattle.write.specs.Plain.{is_plain_text}
use Rattle.write.proofs.Back.{nat-back, int-back, hex-back, bits_back}
use Rattle.write.proofs.Uncut.{decimal-plain, integer-plain, hex-plain}
use Rattle.stored.specs.Stored.{Stored, stored_of, bytes_at, replay_one, replay_stored}
use Rattle.stored.specs.Reading.{number_read, integer_bits, real_bits, bits_in, row_values, keyword_of, read_row, read_all}
use Rattle.stored.proofs.Rows.{Plain, read-row}
use Rattle.laws.specs.Every.{Every}

-- ---- replaying items is replaying what is stored of them

replay-one : (i : Item) (r : Replay) → replay_one (stored_of i) r ≡ replay_item i r
replay-one (values_item o vs) r = refl
replay-one (str_item o s) r = refl
replay-one (array_item o k n) r = refl
replay-one (set_item o) r = refl
replay-one back_item r = refl

pub replay-stored : (is : List Item) (r : Replay) → replay_stored (map stored_of is) r ≡ replay_all is r
replay-stored [] r = refl
replay-stored (i ∷ is) r = ap (replay_stored (map stored_of is)) (replay-one i r) ∙ replay-stored is (replay_item i r)

-- ---- fields

pub number-back : (n : ℕ) → number_read (decimal n) ≡ n
unfolding number_read
number-back n = ap (or_else 0) (nat-back n)

abbrev pub Fits64 : ℤ → Type 0
Fits64 z = between (2 ^ 63) (2 ^ 63 - 1) z ≡ true

integer-bits : (z : ℤ) → Fits64 z → bits_in false (decimalℤ z) ≡ bits64 z
unfolding bits_in
integer-bits z h = ap integer_bits (int-back z) ∙ ap (λ (b : Bool). cond b (bits64 z) 0) h

-- a byte of a number's
byte-below : (k n j : ℕ) → get_or (big_endian k n) j 0 < 256
unfolding big_endian
byte-below zero n j = nothing j
  where
    nothing : (j : ℕ) → get_or {A = ℕ} [] j 0 < 256
    nothing zero = omega arith
    nothing (suc j) = omega arith
byte-below (suc k) n zero = omega arith
byte-below (suc k) n (suc j) = byte-below k n j

real-bits : (n : ℕ) → n < 2 ^ 64 → bits_in true (hex_of (big_endian 8 n)) ≡ n
unfolding bits_in big_endian
real-bits n h = ap real_bits (hex-back (big_endian 8 n) (byte-below 8 n)) ∙ bits_back n h

-- ---- values

-- values in the range of their kind
abbrev pub ValuesInRange : Values → Type 0
ValuesInRange (byte_values vs) = Every (λ (b : ℕ). b < 256) vs
ValuesInRange (word_values zs) = Every Fits64 zs
ValuesInRange (big_values zs) = Every Fits64 zs
ValuesInRange (real_values xs) = Every (λ (x : Float). to_bits binary64 x < 2 ^ 64) xs

byte-read : (v : ℕ) → v < 256 → big_endian 1 (bits_in false (decimal v)) ≡ v ∷ []
unfolding big_endian decimalℤ
byte-read v l =
    let e : v % 2 ^ 64 / 1 % 256 ≡ v = omega arith in
    ap (big_endian 1) (integer-bits (pos v) (le-leb v (2 ^ 63 - 1) (omega arith))) ∙ ap (λ (n : ℕ). n ∷ []) e

bytes_read : (vs : List ℕ) → Every (λ (b : ℕ). b < 256) vs → row_values 1 false (map decimal vs) ≡ vs
unfolding row_values
bytes_read [] h = refl
bytes_read (v ∷ vs) h = λ i. byte-read v h.0 i ++ bytes_read vs h.1 i

integers-read : (w : ℕ) (zs : List ℤ) → Every Fits64 zs → row_values w false (map decimalℤ zs) ≡ concat_map (λ (z : ℤ). big_endian w (bits64 z)) zs
unfolding row_values
integers-read w [] h = refl
integers-read w (z ∷ zs) h = λ i. big_endian w (integer-bits z h.0 i) ++ integers-read w zs h.1 i

reals-read : (xs : List Float) → Every (λ (x : Float). to_bits binary64 x < 2 ^ 64) xs → row_values 8 true (map real_text xs) ≡ concat_map real_bytes xs
unfolding row_values to_bits
reals-read [] h = refl
reals-read (x ∷ xs) h = λ i. big_endian 8 (real-bits (to_bits binary64 x) h.0 i) ++ reals-read xs h.1 i

-- ---- items

-- an item whose values are in range and whose element's size is known
abbrev pub Readable : (ℕ → ℕ) → (TypeKey → ℕ) → Item → Type 0
Readable sizes id (values_item o vs) = ValuesInRange vs
Readable sizes id (str_item o s) = Unit {0}
Readable sizes id (array_item o k n) = sizes (id (elem_key k)) ≡ elem_size k
Readable sizes id (set_item o) = Unit {0}
Readable sizes id back_item = Unit {0}

module _ (sizes : ℕ → ℕ) (id : TypeKey → ℕ) where
  pub item-read : (i : Item) → Readable sizes id i → read_row sizes (bytes "dat" ∷ item_fields id i) ≡ stored_of i ∷ []
  unfolding read_row keyword_of
  item-read (values_item o (byte_values vs)) h = λ i. bytes_at (number-back o i) (bytes_read vs h i) ∷ []
  item-read (values_item o (word_values zs)) h = λ i. bytes_at (number-back o i) (integers-read 4 zs h i) ∷ []
  item-read (values_item o (big_values zs)) h = λ i. bytes_at (number-back o i) (integers-read 8 zs h i) ∷ []
  item-read (values_item o (real_values xs)) h = λ i. bytes_at (number-back o i) (reals-read xs h i) ∷ []
  item-read (str_item o s) h = λ i. Stored.string_at (number-back o i) ∷ []
  item-read (array_item o k n) h = λ i. Stored.array_at (number-back o i) ((ap sizes (number-back (id (elem_key k))) ∙ h) i) (number-back n i) ∷ []
  item-read (set_item o) h = λ i. Stored.set_at (number-back o i) ∷ []
  item-read back_item h = refl

-- ---- plain fields

map-plain : {A : Type 0} (f : A → Bytes) → ((x : A) → is_plain_text (f x) ≡ true) → (xs : List A) → Plain (map f xs)
map-plain f h [] = tt
map-plain f h (x ∷ xs) = (h x, map-plain f h xs)

pub item-plain : (id : TypeKey → ℕ) (i : Item) → Plain (item_fields id i)
unfolding is_plain_text to_bits
item-plain id (values_item o (byte_values vs)) = (refl, (decimal-plain o, (decimal-plain (length vs), map-plain decimal decimal-plain vs)))
item-plain id (values_item o (word_values zs)) = (refl, (decimal-plain o, (decimal-plain (length zs), map-plain decimalℤ integer-plain zs)))
item-plain id (values_item o (big_values zs)) = (refl, (decimal-plain o, (decimal-plain (length zs), map-plain decimalℤ integer-plain zs)))
item-plain id (values_item o (real_values xs)) = (refl, (decimal-plain o, (decimal-plain (length xs), map-plain real_text (λ x. hex-plain (big_endian 8 (to_bits binary64 x))) xs)))
item-plain id (str_item o s) = (refl, (decimal-plain o, (hex-plain s, tt)))
item-plain id (array_item o k n) = (refl, (decimal-plain o, (decimal-plain (id (elem_key k)), (decimal-plain n, tt))))
item-plain id (set_item o) = (refl, (decimal-plain o, (refl, tt)))
item-plain id back_item = (refl, tt)

-- the rows of items are read as what is stored of them, in order
pub items-read : (sizes : ℕ → ℕ) (id : TypeKey → ℕ) (is : List Item) (rest : Bytes) → Every (Readable sizes id) is
    → read_all sizes (concat_map (item_row id) is ++ rest) ≡ map stored_of is ++ read_all sizes rest
unfolding item_row is_plain_text
items-read sizes id [] rest h = refl
items-read sizes id (i ∷ is) rest h =
    ap (read_all sizes) (append_assoc (item_row id i) (concat_map (item_row id) is) rest)
    ∙ read-row sizes (bytes "dat") (item_fields id i) (concat_map (item_row id) is ++ rest) (refl, item-plain id i)
    ∙ (λ j. item-read sizes id i h.0 j ++ items-read sizes id is rest h.1 j)
