-- Constant lines, first half: folding an expression.
use Rattle.std.specs.Prelude.{ℕ, suc, ◌-◌, ◌*◌, ◌%◌, ◌^◌, Bool, true, false, not, ◌&&◌, cond, List, [], ◌∷◌, ◌++◌, length, ℤ, pos, negsuc, neg_ℤ, ◌+ℤ◌, ◌*ℤ◌, leb, ltb, eqb, Float, Option, None, Some}
use Rattle.std.specs.Int.Signed.{lt_z, le_z, quot_z, rem_z, shr_z}
use Rattle.std.specs.Int.Bits.{bit_and, bit_or, bit_xor}
use Rattle.std.specs.Float.Ieee as F
use Rattle.std.specs.Float.{binary64}
use Rattle.semantics.specs.Text.{Bytes, bytes, same, decimalℤ, big_endian, characters}
use Rattle.semantics.specs.Tree.{Basic, Ty, Ex, ArrayEx, ConstVal, UnaryOp, Arith, IntOp, BinOp, basic_of, by_form}
use Rattle.semantics.specs.Tree.Basic.{int, byte, big, real, string}
use Rattle.semantics.specs.Tree.ConstVal.{v_int, v_real, v_str}
use Rattle.semantics.specs.Tree.Ex.{constant, ident, mod_qual, unary, binary, cast, len, array_ex, other_ex}
use Rattle.semantics.specs.Tree.UnaryOp.{neg, not as lnot, bit_not, ref}
use Rattle.semantics.specs.Tree.Arith.{add, sub, mul, div}
use Rattle.semantics.specs.Tree.IntOp.{rem, and, or, xor, lshift, rshift, eq, neq, lt, gt, leq, geq}
use Rattle.semantics.specs.Tree.BinOp.{arith, int_op, power, log_and, log_or}

-- ---- what work on a value gives: a result, a failure, or a refusal with its number

pub data Result (A : Type 0) : Type 0 where
  ok : A → Result A
  failed : Result A
  refuse : ℕ → Result A

-- the next step, where there is a result
abbrev pub bind : {A B : Type 0} → Result A → (A → Result B) → Result B
bind (ok a) f = f a
bind failed f = failed
bind (refuse r) f = refuse r

abbrev pub from_option : {A : Type 0} → Option A → Result A
from_option None = failed
from_option (Some a) = ok a

-- ---- integers

-- the low k bits of an integer
abbrev pub low_bits : ℕ → ℤ → ℕ
low_bits k (pos n) = n % 2 ^ k
low_bits k (negsuc n) = 2 ^ k - 1 - n % 2 ^ k

-- the integer that h bits and a sign are
abbrev pub signed_bits : ℕ → ℕ → ℤ
signed_bits h n = cond (ltb n (2 ^ h)) (pos n) (negsuc (2 ^ suc h - 1 - n))

-- integers have 64 bits
abbrev pub bits64 : ℤ → ℕ
bits64 z = low_bits 64 z

abbrev pub signed64 : ℕ → ℤ
signed64 n = signed_bits 63 n

-- modulo 2^64
unfoldable pub wrap : ℤ → ℤ
wrap z = signed64 (bits64 z)

abbrev pub is_zero : ℤ → Bool
is_zero (pos n) = eqb n 0
is_zero (negsuc n) = false

abbrev pub eq_z : ℤ → ℤ → Bool
eq_z x y = le_z x y && le_z y x

abbrev pub int_ok : ℤ → Result ConstVal
int_ok x = ok (v_int x)

-- comparisons give 1 or 0
abbrev pub test : Bool → Result ConstVal
test true = int_ok (pos 1)
test false = int_ok (pos 0)

abbrev pub bitwise : (ℕ → ℕ → ℕ) → ℤ → ℤ → Result ConstVal
bitwise f x y = int_ok (signed64 (f (bits64 x) (bits64 y)))

-- a shift's count goes modulo 64
abbrev pub shift_count : ℤ → ℕ
shift_count y = bits64 y % 64

-- +, − and times wrap, as −2^63 / −1 does; division truncates toward zero, and a zero divisor fails
abbrev pub int_arith : Arith → ℤ → ℤ → Result ConstVal
int_arith add x y = int_ok (wrap (x +ℤ y))
int_arith sub x y = int_ok (wrap (x +ℤ neg_ℤ y))
int_arith mul x y = int_ok (wrap (x *ℤ y))
int_arith div x y = cond (is_zero y) failed (int_ok (wrap (quot_z x y)))

-- the remainder has the dividend's sign; a right shift keeps the sign, since it divides by 2 ^ count and rounds down
abbrev pub int_only : IntOp → ℤ → ℤ → Result ConstVal
int_only rem x y = cond (is_zero y) failed (int_ok (rem_z x y))
int_only and x y = bitwise bit_and x y
int_only or x y = bitwise bit_or x y
int_only xor x y = bitwise bit_xor x y
int_only lshift x y = int_ok (signed64 (bits64 x * 2 ^ shift_count y % 2 ^ 64))
int_only rshift x y = int_ok (shr_z x (2 ^ shift_count y))
int_only eq x y = test (eq_z x y)
int_only neq x y = test (not (eq_z x y))
int_only lt x y = test (lt_z x y)
int_only gt x y = test (lt_z y x)
int_only leq x y = test (le_z x y)
int_only geq x y = test (le_z y x)

-- power, `LogAnd` and `LogOr` fail
abbrev pub int_binary : BinOp → ℤ → ℤ → Result ConstVal
int_binary (arith o) x y = int_arith o x y
int_binary (int_op o) x y = int_only o x y
int_binary power x y = failed
int_binary log_and x y = failed
int_binary log_or x y = failed

-- ---- reals, by IEEE 754

abbrev pub real_arith : Arith → Float → Float → Float
unfolding F.add F.sub F.mul F.div
real_arith add x y = F.add binary64 x y
real_arith sub x y = F.sub binary64 x y
real_arith mul x y = F.mul binary64 x y
real_arith div x y = F.div binary64 x y

abbrev pub real_binary : BinOp → Float → Float → Result ConstVal
real_binary (arith o) x y = ok (v_real (real_arith o x y))
real_binary (int_op o) x y = failed
real_binary power x y = failed
real_binary log_and x y = failed
real_binary log_or x y = failed

-- an integer to a real: nearest, ties to even
unfoldable pub to_real : ℤ → Float
unfolding F.of_int
to_real z = F.of_int binary64 z

-- a real to a whole number: toward zero, saturating at h bits and a sign, NaN gives 0
unfoldable pub to_whole : ℕ → Float → ℤ
unfolding F.to_signed
to_whole h x = F.to_signed h x

-- a real in eight bytes; there is one NaN, whose bits are 7FF8000000000000
abbrev pub real_bytes : Float → Bytes
unfolding F.to_bits
real_bytes x = big_endian 8 (F.to_bits binary64 x)

-- ---- strings

-- the longest string that a fold may build
abbrev pub longest : ℕ
longest = 256

abbrev pub join_str : Bytes → Bytes → Result ConstVal
join_str x y = cond (leb (length (x ++ y)) longest) (ok (v_str (x ++ y))) (refuse 8)

abbrev pub str_binary : BinOp → Bytes → Bytes → Result ConstVal
str_binary (arith add) x y = join_str x y
str_binary (arith sub) x y = failed
str_binary (arith mul) x y = failed
str_binary (arith div) x y = failed
str_binary (int_op o) x y = failed
str_binary power x y = failed
str_binary log_and x y = failed
str_binary log_or x y = failed

-- ---- operators

-- a mixed pair becomes real
abbrev pub fold_binary : BinOp → ConstVal → ConstVal → Result ConstVal
fold_binary o (v_int x) (v_int y) = int_binary o x y
fold_binary o (v_int x) (v_real y) = real_binary o (to_real x) y
fold_binary o (v_int x) (v_str y) = failed
fold_binary o (v_real x) (v_int y) = real_binary o x (to_real y)
fold_binary o (v_real x) (v_real y) = real_binary o x y
fold_binary o (v_real x) (v_str y) = failed
fold_binary o (v_str x) (v_int y) = failed
fold_binary o (v_str x) (v_real y) = failed
fold_binary o (v_str x) (v_str y) = str_binary o x y

abbrev pub int_unary : UnaryOp → ℤ → Result ConstVal
int_unary neg x = int_ok (wrap (neg_ℤ x))
int_unary lnot x = test (is_zero x)
int_unary bit_not x = int_ok (neg_ℤ (x +ℤ pos 1))
int_unary ref x = failed

abbrev pub real_unary : UnaryOp → Float → Result ConstVal
unfolding F.neg
real_unary neg x = ok (v_real (F.neg x))
real_unary lnot x = failed
real_unary bit_not x = failed
real_unary ref x = failed

abbrev pub fold_unary : UnaryOp → ConstVal → Result ConstVal
fold_unary o (v_int x) = int_unary o x
fold_unary o (v_real x) = real_unary o x
fold_unary o (v_str x) = failed

-- integer to real or to decimal string
abbrev pub cast_int : Basic → ℤ → ConstVal
cast_int int x = v_int x
cast_int byte x = v_int x
cast_int big x = v_int x
cast_int real x = v_real (to_real x)
cast_int string x = v_str (decimalℤ x)

-- real to int, byte or big, each in the range of 64 bits
abbrev pub cast_real : Basic → Float → ConstVal
cast_real int x = v_int (to_whole 63 x)
cast_real byte x = v_int (to_whole 63 x)
cast_real big x = v_int (to_whole 63 x)
cast_real real x = v_real x
cast_real string x = v_real x

-- all else passes unchanged
abbrev pub fold_cast : Option Basic → ConstVal → ConstVal
fold_cast None v = v
fold_cast (Some b) (v_int x) = cast_int b x
fold_cast (Some b) (v_real x) = cast_real b x
fold_cast (Some b) (v_str s) = v_str s

abbrev pub fold_len : ConstVal → Result ConstVal
fold_len (v_int x) = failed
fold_len (v_real x) = failed
fold_len (v_str s) = int_ok (pos (characters s))

-- ---- names

-- NAME, or M->NAME
pub record Key : Type 0 where
  pub within : Option Bytes
  pub name : Bytes

abbrev pub plain : Bytes → Key
plain n = record { within = None; name = n }

abbrev pub qualified : Bytes → Bytes → Key
qualified m n = record { within = Some m; name = n }

abbrev pub same_option : Option Bytes → Option Bytes → Bool
same_option None None = true
same_option None (Some y) = false
same_option (Some x) None = false
same_option (Some x) (Some y) = same x y

abbrev pub same_key : Key → Key → Bool
same_key j k = same_option j.within k.within && same j.name k.name

-- a constant that has been folded, with no value where it failed
pub record Const : Type 0 where
  pub key : Key
  pub value : Option ConstVal

-- what a fold knows of names: the constants folded so far, the newest first
pub record Names : Type 0 where
  pub log : List Const

-- the newest constant of a key
abbrev pub look_up : Key → List Const → Option Const
look_up k [] = None
look_up k (c ∷ cs) = cond (same_key k c.key) (Some c) (look_up k cs)

abbrev pub value_of : Option Const → Option ConstVal
value_of None = None
value_of (Some c) = c.value

-- a bare name: an unknown one fails, and so does one of a constant that failed
abbrev pub const_value : Names → Bytes → Result ConstVal
const_value ns n = from_option (value_of (look_up (plain n) ns.log))

-- a name of the module that an expression names
abbrev pub qualified_value : Names → Ex → Bytes → Result ConstVal
qualified_value ns e n = by_form (λ (m : Bytes). from_option (value_of (look_up (qualified m n) ns.log))) (λ (t : Ty). failed) (λ (a : ArrayEx). failed) failed e

-- ---- folding: left first, and a failure or refusal ends it

unfoldable pub fold : Names → ℤ → Ex → Result ConstVal
fold ns iota (constant v) = ok v
fold ns iota (ident n) = cond (same n (bytes "iota")) (ok (v_int iota)) (const_value ns n)
fold ns iota (mod_qual e n) = qualified_value ns e n
fold ns iota (unary o e) = bind (fold ns iota e) (fold_unary o)
fold ns iota (binary l o r) = bind (fold ns iota l) (λ (x : ConstVal). bind (fold ns iota r) (fold_binary o x))
fold ns iota (cast t e) = bind (fold ns iota e) (λ (v : ConstVal). ok (fold_cast (basic_of t) v))
fold ns iota (len e) = bind (fold ns iota e) fold_len
fold ns iota (array_ex a) = failed
fold ns iota other_ex = failed

-- outside constants `iota` is 0
abbrev pub fold_at0 : Names → Ex → Result ConstVal
fold_at0 ns e = fold ns (pos 0) e
