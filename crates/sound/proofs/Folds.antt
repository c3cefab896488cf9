-- A fold of literals and constants within the limits gives a value within them.
use Prim.Native.Nat.{ℕ, zero, suc, ◌+◌, ◌-◌, ◌*◌, ◌%◌, ◌^◌, ◌≤◌, ◌<◌}
use native.Mathlib.Omega.{arith}
use native.Mathlib.Numerals.{add-one}
use mathlib.Core.Path.{◌≡◌, refl}
use mathlib.Core.Bool.{Bool, true, false, cond, not as notb}
use mathlib.Core.List.{List, [], ◌∷◌, ◌++◌}
use Rattle.std.specs.Prelude.{Option, None, Some}
use lib.ListN.{length}
use lib.Dec.{leb, ltb}
use lib.IntN.{ℤ, pos, negsuc, neg_ℤ, ◌+ℤ◌, ◌*ℤ◌}
use lib.Signed.{mag, mag_rem, mag_shr, quot_z, rem_z, shr_z, lt_z, le_z}
use lib.Bits.{bit_and, bit_or, bit_xor}
use lib.Ieee as F
use lib.Ieee.{Float, binary64}
use lib.Ieee.Fits.{add-fits, sub-fits, mul-fits, div-fits, neg-fits, of_int-fits}
use borrow.Author.Tests.{lt-ltb, leb-true, ltb-true, ltb-false}
use Rattle.semantics.specs.Text.{Bytes, bytes, same, characters, in_range}
use Rattle.semantics.specs.Tree.{Basic, Ex, ConstVal, UnaryOp, Arith, IntOp, BinOp, basic_of}
use Rattle.semantics.specs.Tree.Basic.{int, byte, big, real, string}
use Rattle.semantics.specs.Tree.ConstVal.{v_int, v_real, v_str}
use Rattle.semantics.specs.Tree.Ex.{constant, ident, mod_qual, unary, binary, cast, len, array_ex, other_ex}
use Rattle.semantics.specs.Tree.UnaryOp.{neg, not, bit_not, ref}
use Rattle.semantics.specs.Tree.Arith.{add, sub, mul, div}
use Rattle.semantics.specs.Tree.IntOp.{rem, and, or, xor, lshift, rshift, eq, neq, lt, gt, leq, geq}
use Rattle.semantics.specs.Tree.BinOp.{arith as arith-op, int_op, power, log_and, log_or}
use Rattle.semantics.specs.Fold.{Result, bind, bits64, shift_count, eq_z, signed64, wrap, is_zero, test, int_arith, int_only, int_binary, real_binary, to_real, join_str, str_binary, fold_binary, fold_unary, cast_int, cast_real, fold_cast, fold_len, Key, Const, Names, same_key, look_up, value_of, from_option, qualified_value, plain, qualified, fold}
use Rattle.semantics.specs.Fold.Result.{ok, failed, refuse}
use Rattle.values.proofs.Written.{integer-short}
use Rattle.stored.proofs.Items.{Fits64}
use Rattle.stored.proofs.Ranges.{small, whole-fits}
use Rattle.sound.proofs.Limits.{Limited, LimitedOption, LimitedEx}
use Rattle.laws.specs.Every.{Every}

-- what holds of a result, where there is one
abbrev pub Gives : {A : Type 0} → (A → Type 0) → Result A → Type 0
Gives P (ok a) = P a
Gives P failed = Unit {0}
Gives P (refuse r) = Unit {0}

pub next-gives : {A B : Type 0} (P : A → Type 0) (Q : B → Type 0) (r : Result A) (f : A → Result B) → Gives P r → ((a : A) → P a → Gives Q (f a)) → Gives Q (bind r f)
next-gives P Q (ok a) f h k = k a h
next-gives P Q failed f h k = tt
next-gives P Q (refuse r) f h k = tt

abbrev pub LimitedResult : Result ConstVal → Type 0
LimitedResult r = Gives Limited r

-- ---- integers of 64 bits

magnitude : (z : ℤ) → Fits64 z → mag z < 9223372036854775808
magnitude (pos n) h = omega (arith, leb-true n 9223372036854775807 h)
magnitude (negsuc n) h = ltb-true n 9223372036854775808 h

signed-fits : (n : ℕ) → Fits64 (signed64 n)
signed-fits n = go (ltb n 9223372036854775808) refl
  where
    go : (b : Bool) → ltb n 9223372036854775808 ≡ b → Fits64 (cond b (pos n) (negsuc (18446744073709551615 - n)))
    go true e = small (pos n) (ltb-true n 9223372036854775808 e)
    go false e = let l = ltb-false n 9223372036854775808 e in small (negsuc (18446744073709551615 - n)) (omega arith)

wrap-fits : (z : ℤ) → Fits64 (wrap z)
unfolding wrap
wrap-fits z = signed-fits (bits64 z)

complement : (z : ℤ) → mag (neg_ℤ (z +ℤ pos 1)) ≡ mag z
complement (pos n) = rw (add-one n)
complement (negsuc zero) = refl
complement (negsuc (suc n)) = rw (lt-ltb 1 (suc (suc n)) (omega arith)) (omega arith)

-- ---- operators

test-limited : (b : Bool) → LimitedResult (test b)
test-limited true = refl
test-limited false = refl

-- a divisor of zero fails
divided : (b : Bool) (z : ℤ) → Fits64 z → LimitedResult (cond b failed (ok (v_int z)))
divided true z h = tt
divided false z h = h

int-arith : (o : Arith) (x y : ℤ) → LimitedResult (int_arith o x y)
int-arith add x y = wrap-fits (x +ℤ y)
int-arith sub x y = wrap-fits (x +ℤ neg_ℤ y)
int-arith mul x y = wrap-fits (x *ℤ y)
int-arith div x y = divided (is_zero y) (wrap (quot_z x y)) (wrap-fits (quot_z x y))

int-only : (o : IntOp) (x y : ℤ) → Fits64 x → LimitedResult (int_only o x y)
int-only rem x y h = divided (is_zero y) (rem_z x y) (small (rem_z x y) (omega (arith, mag_rem x y, magnitude x h)))
int-only and x y h = signed-fits (bit_and (bits64 x) (bits64 y))
int-only or x y h = signed-fits (bit_or (bits64 x) (bits64 y))
int-only xor x y h = signed-fits (bit_xor (bits64 x) (bits64 y))
int-only lshift x y h = signed-fits (bits64 x * 2 ^ shift_count y % 2 ^ 64)
int-only rshift x y h = small (shr_z x (2 ^ shift_count y)) (omega (arith, mag_shr x (2 ^ shift_count y), magnitude x h))
int-only eq x y h = test-limited (eq_z x y)
int-only neq x y h = test-limited (notb (eq_z x y))
int-only lt x y h = test-limited (lt_z x y)
int-only gt x y h = test-limited (lt_z y x)
int-only leq x y h = test-limited (le_z x y)
int-only geq x y h = test-limited (le_z y x)

int-binary : (o : BinOp) (x y : ℤ) → Fits64 x → LimitedResult (int_binary o x y)
int-binary (arith-op o) x y h = int-arith o x y
int-binary (int_op o) x y h = int-only o x y h
int-binary power x y h = tt
int-binary log_and x y h = tt
int-binary log_or x y h = tt

real-binary : (o : BinOp) (x y : Float) → LimitedResult (real_binary o x y)
unfolding F.add F.sub F.mul F.div
real-binary (arith-op add) x y = add-fits binary64 x y
real-binary (arith-op sub) x y = sub-fits binary64 x y
real-binary (arith-op mul) x y = mul-fits binary64 x y
real-binary (arith-op div) x y = div-fits binary64 x y
real-binary (int_op o) x y = tt
real-binary power x y = tt
real-binary log_and x y = tt
real-binary log_or x y = tt

join-limited : (s t : Bytes) → LimitedResult (join_str s t)
join-limited s t = go (leb (length (s ++ t)) 256) refl
  where
    go : (b : Bool) → leb (length (s ++ t)) 256 ≡ b → LimitedResult (cond b (ok (v_str (s ++ t))) (refuse 8))
    go true e = leb-true (length (s ++ t)) 256 e
    go false e = tt

string-binary : (o : BinOp) (s t : Bytes) → LimitedResult (str_binary o s t)
string-binary (arith-op add) s t = join-limited s t
string-binary (arith-op sub) s t = tt
string-binary (arith-op mul) s t = tt
string-binary (arith-op div) s t = tt
string-binary (int_op o) s t = tt
string-binary power s t = tt
string-binary log_and s t = tt
string-binary log_or s t = tt

binary-limited : (o : BinOp) (v w : ConstVal) → Limited v → LimitedResult (fold_binary o v w)
binary-limited o (v_int x) (v_int y) h = int-binary o x y h
binary-limited o (v_int x) (v_real y) h = real-binary o (to_real x) y
binary-limited o (v_int x) (v_str y) h = tt
binary-limited o (v_real x) (v_int y) h = real-binary o x (to_real y)
binary-limited o (v_real x) (v_real y) h = real-binary o x y
binary-limited o (v_real x) (v_str y) h = tt
binary-limited o (v_str x) (v_int y) h = tt
binary-limited o (v_str x) (v_real y) h = tt
binary-limited o (v_str x) (v_str y) h = string-binary o x y

unary-limited : (o : UnaryOp) (v : ConstVal) → Limited v → LimitedResult (fold_unary o v)
unfolding F.neg
unary-limited neg (v_int x) h = wrap-fits (neg_ℤ x)
unary-limited not (v_int x) h = test-limited (is_zero x)
unary-limited bit_not (v_int x) h = small (neg_ℤ (x +ℤ pos 1)) (omega (arith, complement x, magnitude x h))
unary-limited ref (v_int x) h = tt
unary-limited neg (v_real x) h = neg-fits binary64 x h
unary-limited not (v_real x) h = tt
unary-limited bit_not (v_real x) h = tt
unary-limited ref (v_real x) h = tt
unary-limited neg (v_str x) h = tt
unary-limited not (v_str x) h = tt
unary-limited bit_not (v_str x) h = tt
unary-limited ref (v_str x) h = tt

cast-int : (b : Basic) (x : ℤ) → Fits64 x → Limited (cast_int b x)
unfolding to_real
cast-int int x h = h
cast-int byte x h = h
cast-int big x h = h
cast-int real x h = of_int-fits binary64 x
cast-int string x h = omega (arith, integer-short {z = x} (record { sfits = magnitude x h }))

cast-real : (b : Basic) (x : Float) → Limited (v_real x) → Limited (cast_real b x)
cast-real int x h = whole-fits x
cast-real byte x h = whole-fits x
cast-real big x h = whole-fits x
cast-real real x h = h
cast-real string x h = h

cast-limited : (o : Option Basic) (v : ConstVal) → Limited v → Limited (fold_cast o v)
cast-limited None v h = h
cast-limited (Some b) (v_int x) h = cast-int b x h
cast-limited (Some b) (v_real x) h = cast-real b x h
cast-limited (Some b) (v_str s) h = h

characters-few : (s : Bytes) → characters s ≤ length s
unfolding characters
characters-few [] = omega arith
characters-few (b ∷ s) = go (in_range 0x80 0xBF b) (characters-few s)
  where
    go : (t : Bool) → characters s ≤ length s → cond t 0 1 + characters s ≤ suc (length s)
    go true h = omega arith
    go false h = omega arith

len-limited : (v : ConstVal) → Limited v → LimitedResult (fold_len v)
len-limited (v_int x) h = tt
len-limited (v_real x) h = tt
len-limited (v_str s) h = small (pos (characters s)) (omega (arith, characters-few s, h))

-- ---- names

abbrev pub LimitedConst : Const → Type 0
LimitedConst c = LimitedOption c.value

value_found : (o : Option ConstVal) → LimitedOption o → LimitedResult (from_option o)
value_found None h = tt
value_found (Some v) h = h

found-limited : (k : Key) (cs : List Const) → Every LimitedConst cs → LimitedResult (from_option (value_of (look_up k cs)))
found-limited k [] h = tt
found-limited k (c ∷ cs) h = go (same_key k c.key) (found-limited k cs h.1)
  where
    go : (b : Bool) → LimitedResult (from_option (value_of (look_up k cs))) → LimitedResult (from_option (value_of (cond b (Some c) (look_up k cs))))
    go true r = value_found c.value h.0
    go false r = r

-- ---- expressions

module _ (ns : Names) (known : Every LimitedConst ns.log) (iota : ℤ) (few : Fits64 iota) where
  qualified-limited : (e : Ex) (n : Bytes) → LimitedResult (qualified_value ns e n)
  qualified-limited (constant v) n = tt
  qualified-limited (ident m) n = found-limited (qualified m n) ns.log known
  qualified-limited (mod_qual e m) n = tt
  qualified-limited (unary o e) n = tt
  qualified-limited (binary l o r) n = tt
  qualified-limited (cast t e) n = tt
  qualified-limited (len e) n = tt
  qualified-limited (array_ex a) n = tt
  qualified-limited other_ex n = tt

  pub fold-limited : (e : Ex) → LimitedEx e → LimitedResult (fold ns iota e)
  unfolding fold
  fold-limited (constant v) h = h
  fold-limited (ident n) h = go (same n (bytes "iota"))
    where
      go : (b : Bool) → LimitedResult (cond b (ok (v_int iota)) (from_option (value_of (look_up (plain n) ns.log))))
      go true = few
      go false = found-limited (plain n) ns.log known
  fold-limited (mod_qual e n) h = qualified-limited e n
  fold-limited (unary o e) h = next-gives Limited Limited (fold ns iota e) (fold_unary o) (fold-limited e h) (unary-limited o)
  fold-limited (binary l o r) h =
      next-gives Limited Limited (fold ns iota l) (λ (x : ConstVal). bind (fold ns iota r) (fold_binary o x)) (fold-limited l h.0)
      (λ x g. next-gives Limited Limited (fold ns iota r) (fold_binary o x) (fold-limited r h.1) (λ y k. binary-limited o x y g))
  fold-limited (cast t e) h = next-gives Limited Limited (fold ns iota e) (λ (v : ConstVal). ok (fold_cast (basic_of t) v)) (fold-limited e h) (cast-limited (basic_of t))
  fold-limited (len e) h = next-gives Limited Limited (fold ns iota e) fold_len (fold-limited e h) len-limited
  fold-limited (array_ex a) h = tt
  fold-limited other_ex h = tt
