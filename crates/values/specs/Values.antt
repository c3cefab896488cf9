-- Folded values as the code has them, and what they are in the working space.
use Rattle.std.specs.Prelude.{ℕ, ◌+◌, ◌*◌, ◌≤◌, ◌<◌, ◌≡◌, true, [], ◌∷◌, ◌⊎◌, take, drop, get_or, Option, None, Some, Result, Ok, Err}
use Rattle.std.specs.Float.{binary64}
use Rattle.std.specs.Float.Ieee.{fits, to_bits}
use Rattle.semantics.specs.Text.{Bytes}
use Rattle.semantics.specs.Tree as Tree
use Rattle.semantics.specs.Tree.{Basic}
use Rattle.semantics.specs.Tree.Basic.{int, byte, big, real, string}
use Rattle.semantics.specs.Tree.ConstVal.{v_int, v_real, v_str}
use Rattle.semantics.specs.Fold as Fold
use Rattle.semantics.specs.Fold.{bits64, wrap}
use Rattle.semantics.specs.Fold.Result.{ok, failed, refuse}
use Rattle.checks.specs.Checks.{Kept}
use Rattle.values.specs.declared.ConstVal.{ConstVal}
use Rattle.values.specs.declared.ConstVal.TheVariants.{Int, Real, Str}
use Rattle.values.specs.declared.NoValue.{NoValue}
use Rattle.values.specs.declared.NoValue.TheVariants.{Failed, LongString}

-- ---- values in a working space t

-- l bytes at p
unfoldable pub string_in : Bytes → ℕ → ℕ → Bytes
string_in t p l = take l (drop p t)

unfoldable pub value_in : Bytes → ConstVal → Tree.ConstVal
value_in t (Int z) = v_int z
value_in t (Real x) = v_real x
value_in t (Str p l) = v_str (string_in t p l)

-- what works on values gives: something, or no value
abbrev pub Outcome : Type 0 → Type 0
Outcome A = Result A NoValue

-- a string that is too long is refusal 8
abbrev pub answered : {A : Type 0} → Outcome A → Fold.Result A
answered (Ok a) = ok a
answered (Err Failed) = failed
answered (Err LongString) = refuse 8

unfoldable pub result_in : Bytes → Result ConstVal NoValue → Fold.Result Tree.ConstVal
result_in t (Ok v) = ok (value_in t v)
result_in t (Err Failed) = failed
result_in t (Err LongString) = refuse 8

abbrev pub string_size : ConstVal → ℕ
string_size (Int z) = 0
string_size (Real x) = 0
string_size (Str p l) = l

-- the kind of a value in a slot, and its bits: a string's are its place + 65536 times its length
abbrev pub kind_for : ConstVal → ℕ
kind_for (Int z) = 1
kind_for (Real x) = 2
kind_for (Str p l) = 3

abbrev pub bits_for : ConstVal → ℕ
bits_for (Int z) = bits64 z
bits_for (Real x) = to_bits binary64 x
bits_for (Str p l) = p + 65536 * l

-- a string's place and length take two bytes each
abbrev pub Small : ConstVal → Type 0
Small (Int z) = Unit {0}
Small (Real x) = Unit {0}
Small (Str p l) = (p < 65536) × (l < 65536)

-- an integer has 64 bits, and a real is a binary64
abbrev pub InRange : ConstVal → Type 0
InRange (Int z) = wrap z ≡ z
InRange (Real x) = fits binary64 x ≡ true
InRange (Str p l) = Unit {0}

-- a string stands at `top`, and is not too long
abbrev pub At : ℕ → ConstVal → Type 0
At top (Int z) = Unit {0}
At top (Real x) = Unit {0}
At top (Str p l) = (p ≡ top) × (l ≤ 256)

abbrev pub ResultAt : ℕ → Result ConstVal NoValue → Type 0
ResultAt top (Ok v) = At top v
ResultAt top (Err e) = Unit {0}

-- a string stands within the first n bytes
abbrev pub Within : ℕ → ConstVal → Type 0
Within n (Int z) = Unit {0}
Within n (Real x) = Unit {0}
Within n (Str p l) = (p + l ≤ n) × (l ≤ 256)

-- r is the result e, with a string at `top`
pub record Answers (t : Bytes) (top : ℕ) (r : Result ConstVal NoValue) (e : Fold.Result Tree.ConstVal) : Type 0 where
  pub value : result_in t r ≡ e
  pub at : ResultAt top r

-- t has become u, where v is the value e, with a string at `top`
pub record Casts (t : Bytes) (top : ℕ) (e : Tree.ConstVal) (u : Bytes) (v : ConstVal) : Type 0 where
  pub value : value_in u v ≡ e
  pub at : At top v
  pub kept : Kept top t u

-- ---- types by their numbers

-- the forms of types from 0; those behind `string` are not basic
abbrev pub basic_at : ℕ → Option Basic
basic_at f = get_or (Some int ∷ Some byte ∷ Some big ∷ Some real ∷ Some string ∷ []) f None

-- ---- copies

-- l bytes from a and from b, within n bytes and apart
pub record RunsApart (n a b l : ℕ) : Type 0 where
  pub source : a + l ≤ n
  pub target : b + l ≤ n
  pub apart : (a + l ≤ b) ⊎ (b + l ≤ a)
