-- Global and data lines, first half: conversions of elements, and constant arrays.
use Rattle.std.specs.Prelude.{ℕ, zero, suc, ◌-◌, ◌^◌, max, Bool, true, false, ◌&&◌, cond, List, [], ◌∷◌, ◌++◌, ℤ, pos, negsuc, leb, ltb, eqb, Float, Option, None, Some}
use Rattle.std.specs.Float.{fin}
use Rattle.semantics.specs.Text.{Bytes, any, or_else}
use Rattle.semantics.specs.Tree.{Basic, Ty, Ex, ArrayEx, MaybeEx, El, Els, Ses, ConstVal, ElemKind, by_form}
use Rattle.semantics.specs.Tree.Basic.{int, byte, big, real, string}
use Rattle.semantics.specs.Tree.Ty.{basic, ptr, array, tuple}
use Rattle.semantics.specs.Tree.ConstVal.{v_int, v_real, v_str}
use Rattle.semantics.specs.Tree.ArrayEx.{alloc, lit}
use Rattle.semantics.specs.Tree.MaybeEx.{absent, given}
use Rattle.semantics.specs.Tree.El.{next, star, at}
use Rattle.semantics.specs.Tree.Els.{no_els, and_el}
use Rattle.semantics.specs.Tree.Ses.{no_ses, and_se}
use Rattle.semantics.specs.Tree.ElemKind.{k_byte, k_word, k_big, k_real, k_ptr}
use Rattle.semantics.specs.Fold.{Result, bind, low_bits, signed_bits, Names, fold_at0, to_real, to_whole}
use Rattle.semantics.specs.Fold.Result.{ok, failed, refuse}

-- ---- kinds of elements

abbrev pub basic_kind : Basic → ElemKind
basic_kind int = k_word
basic_kind byte = k_byte
basic_kind big = k_big
basic_kind real = k_real
basic_kind string = k_ptr

abbrev pub elem_kind : Ty → ElemKind
elem_kind (basic b) = basic_kind b
elem_kind ptr = k_ptr
elem_kind (array t) = k_ptr
elem_kind (tuple ts) = k_ptr

-- a number for each kind, by which kinds are compared
abbrev pub kind_number : ElemKind → ℕ
kind_number k_byte = 0
kind_number k_word = 1
kind_number k_big = 2
kind_number k_real = 3
kind_number k_ptr = 4

abbrev pub is_of_kind : ElemKind → Ty → Bool
is_of_kind k t = eqb (kind_number (elem_kind t)) (kind_number k)

-- ---- conversions

-- the low h + 1 bits of an integer, as signed
abbrev pub lowest : ℕ → ℤ → ℤ
lowest h z = signed_bits h (low_bits (suc h) z)

abbrev pub low_byte : ℤ → ℕ
low_byte z = low_bits 8 z

-- a real saturates at 32 bits, and a string among numbers is 0
abbrev pub const_word : ConstVal → ℤ
const_word (v_int x) = lowest 31 x
const_word (v_real x) = to_whole 31 x
const_word (v_str s) = pos 0

abbrev pub const_byte : ConstVal → ℕ
const_byte v = low_byte (const_word v)

abbrev pub const_big : ConstVal → ℤ
const_big (v_int x) = x
const_big (v_real x) = to_whole 63 x
const_big (v_str s) = pos 0

abbrev pub const_real : ConstVal → Float
const_real (v_int x) = to_real x
const_real (v_real x) = x
const_real (v_str s) = fin false 0 (pos 0)

-- ---- constant arrays: a failure leaves the literal or `alloc` pending

pub record ConstArray : Type 0 where
  pub kind : ElemKind
  pub count : ℕ
  pub values : List ConstVal

abbrev pub longest_alloc : ℕ
longest_alloc = 2 ^ 31 - 1

-- an `alloc` of a length: 9 where it passes 32 bits, and else 10 where it is negative; no values are given
abbrev pub allocated : ElemKind → ConstVal → Result ConstArray
allocated k (v_int (pos n)) = cond (leb n longest_alloc) (ok (record { kind = k; count = n; values = [] })) (refuse 9)
allocated k (v_int (negsuc n)) = cond (leb n longest_alloc) (refuse 10) (refuse 9)
allocated k (v_real x) = failed
allocated k (v_str s) = failed

-- ---- where the elements of a literal fall

-- indices from low to high that take a value
pub record Placement : Type 0 where
  pub low : ℕ
  pub high : ℕ
  pub value : ConstVal

-- a literal so far: where the next plain element falls, the end of its indices, the placements in order, and the last wildcard
pub record Filled : Type 0 where
  pub next_index : ℕ
  pub reach : ℕ
  pub placements : List Placement
  pub wildcard : Option ConstVal

abbrev pub none_filled : Filled
none_filled = record { next_index = 0; reach = 0; placements = []; wildcard = None }

abbrev pub place_span : ConstVal → ℕ → ℕ → Filled → Filled
place_span v l h f = record { next_index = suc h; reach = max f.reach (suc h); placements = f.placements ++ (record { low = l; high = h; value = v } ∷ []); wildcard = f.wildcard }

-- indices low to high, none where high is below low; a negative index fails
abbrev pub place_indices : ConstVal → ℤ → ℤ → Filled → Result Filled
place_indices v (pos l) (pos h) f = cond (leb l h) (ok (place_span v l h f)) (ok f)
place_indices v (pos l) (negsuc h) f = ok f
place_indices v (negsuc l) (pos h) f = failed
place_indices v (negsuc l) (negsuc h) f = cond (leb h l) failed (ok f)

-- a plain element: the index 2^63 counts as negative
abbrev pub place_next : ConstVal → Filled → Result Filled
place_next v f = cond (ltb f.next_index (2 ^ 63)) (place_indices v (pos f.next_index) (pos f.next_index) f) failed

abbrev pub place_spans : ConstVal → List (ℤ × ℤ) → Filled → Result Filled
place_spans v [] f = ok f
place_spans v (s ∷ ss) f = bind (place_indices v s.0 s.1 f) (place_spans v ss)

abbrev pub set_wildcard : ConstVal → Filled → Filled
set_wildcard v f = record { next_index = f.next_index; reach = f.reach; placements = f.placements; wildcard = Some v }

-- ---- selectors

abbrev pub as_int : ConstVal → Result ℤ
as_int (v_int x) = ok x
as_int (v_real x) = failed
as_int (v_str s) = failed

abbrev pub index_of : Names → Ex → Result ℤ
index_of ns e = bind (fold_at0 ns e) as_int

abbrev pub high_of : Names → ℤ → MaybeEx → Result ℤ
high_of ns l absent = ok l
high_of ns l (given e) = index_of ns e

abbrev pub span_of : Names → Ex → MaybeEx → Result (ℤ × ℤ)
span_of ns l h = bind (index_of ns l) (λ (x : ℤ). bind (high_of ns x h) (λ (y : ℤ). ok (x, y)))

-- low and high of each in turn
abbrev pub spans_of : Names → Ses → Result (List (ℤ × ℤ))
spans_of ns no_ses = ok []
spans_of ns (and_se l h ss) = bind (span_of ns l h) (λ (s : ℤ × ℤ). bind (spans_of ns ss) (λ (r : List (ℤ × ℤ)). ok (s ∷ r)))

-- ---- elements: the value first, then its selectors

abbrev pub fill_element : Names → El → Filled → Result Filled
fill_element ns (next e) f = bind (fold_at0 ns e) (λ (v : ConstVal). place_next v f)
fill_element ns (star e) f = bind (fold_at0 ns e) (λ (v : ConstVal). ok (set_wildcard v f))
fill_element ns (at e ss) f = bind (fold_at0 ns e) (λ (v : ConstVal). bind (spans_of ns ss) (λ (l : List (ℤ × ℤ)). place_spans v l f))

abbrev pub fill : Names → Els → Filled → Result Filled
fill ns no_els f = ok f
fill ns (and_el e es) f = bind (fill_element ns e f) (fill ns es)

-- ---- the values of a literal

-- a repeated index takes the last value, and an index that none names the filler v
abbrev pub value_at : List Placement → ConstVal → ℕ → ConstVal
value_at [] v i = v
value_at (p ∷ ps) v i = value_at ps (cond (leb p.low i && leb i p.high) p.value v) i

-- n values from index i on
abbrev pub values_from : List Placement → ConstVal → ℕ → ℕ → List ConstVal
values_from ps v i zero = []
values_from ps v i (suc n) = value_at ps v i ∷ values_from ps v (suc i) n

-- the filler: the last wildcard, else integer 0
abbrev pub filler : Option ConstVal → ConstVal
filler o = or_else (v_int (pos 0)) o

-- ---- the kind of a literal's elements

abbrev pub is_byte_cast : Ex → Bool
is_byte_cast e = by_form (λ (n : Bytes). false) (is_of_kind k_byte) (λ (a : ArrayEx). false) false e

abbrev pub el_value : El → Ex
el_value (next e) = e
el_value (star e) = e
el_value (at e ss) = e

abbrev pub all_byte_casts : Els → Bool
all_byte_casts no_els = true
all_byte_casts (and_el e es) = is_byte_cast (el_value e) && all_byte_casts es

-- whether there is an element, and every value is a cast to byte
abbrev pub is_byte_literal : Els → Bool
is_byte_literal no_els = false
is_byte_literal (and_el e es) = is_byte_cast (el_value e) && all_byte_casts es

abbrev pub is_str : ConstVal → Bool
is_str (v_int x) = false
is_str (v_real x) = false
is_str (v_str x) = true

abbrev pub is_real : ConstVal → Bool
is_real (v_int x) = false
is_real (v_real x) = true
is_real (v_str x) = false

abbrev pub kind_of_values : List ConstVal → ElemKind
kind_of_values vs = cond (any is_str vs) k_ptr (cond (any is_real vs) k_real k_word)

-- by the element type of the global's type, or else the literal's own, or else by the values
abbrev pub literal_kind : Option Ty → Option Ty → Els → List ConstVal → ElemKind
literal_kind (Some t) u es vs = elem_kind t
literal_kind None (Some u) es vs = elem_kind u
literal_kind None None es vs = cond (is_byte_literal es) k_byte (kind_of_values vs)

-- ---- a literal

abbrev pub longest_literal : ℕ
longest_literal = 1024

-- whether a placement has an index outside the size n
abbrev pub outside : ℕ → Placement → Bool
outside n p = leb n p.high

-- a size that is negative or no integer leaves the literal pending
abbrev pub as_size : ConstVal → Result ℕ
as_size (v_int (pos n)) = ok n
as_size (v_int (negsuc n)) = failed
as_size (v_real x) = failed
as_size (v_str s) = failed

-- its size, or else as many as its indices reach
abbrev pub literal_size : Names → MaybeEx → Filled → Result ℕ
literal_size ns absent f = ok f.reach
literal_size ns (given e) f = bind (fold_at0 ns e) as_size

abbrev pub built : Option Ty → Option Ty → Els → Filled → ℕ → Result ConstArray
built declared ty es f n =
    let vs = values_from f.placements (filler f.wildcard) 0 n in
    ok (record { kind = literal_kind declared ty es vs; count = n; values = vs })

-- a literal of size n: first refusal 11 is tried, then 12
abbrev pub measured : Option Ty → Option Ty → Els → Filled → ℕ → Result ConstArray
measured declared ty es f n = cond (any (outside n) f.placements) (refuse 11) (cond (leb n longest_literal) (built declared ty es f n) (refuse 12))

abbrev pub literal : Names → Option Ty → MaybeEx → Option Ty → Els → Result ConstArray
literal ns declared s ty es = bind (fill ns es none_filled) (λ (f : Filled). bind (literal_size ns s f) (measured declared ty es f))

-- the constant array that an `alloc` or a literal is, where the global's type declares an element type or none
abbrev pub array_of : Names → Option Ty → ArrayEx → Result ConstArray
array_of ns declared (alloc e t) = bind (fold_at0 ns e) (allocated (elem_kind (or_else t declared)))
array_of ns declared (lit s t es) = literal ns declared s t es

abbrev pub const_array : Names → Option Ty → Ex → Result ConstArray
const_array ns declared e = by_form (λ (n : Bytes). failed) (λ (t : Ty). failed) (array_of ns declared) failed e
