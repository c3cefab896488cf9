-- Results as the code has them, by the cases of values and of operators.
use Prim.Native.Nat.{ℕ, ◌+◌, ◌-◌, ◌≤◌, ◌<◌}
use mathlib.Core.Path.{◌≡◌, refl, sym, ap, ◌∙◌, subst}
use mathlib.Core.Bool.{true}
use mathlib.Core.List.{◌++◌}
use native.Mathlib.Omega.{arith}
use lib.Dec.{T}
use lib.IntN.{ℤ, pos, negsuc}
use lib.ListN.{length, length-append}
use lib.Ieee.{Float, binary64, fits, to_bits, of_bits, neg}
use lib.Ieee.Bits.{of_bits-to_bits, to_bits-lt}
use mir.Syntax.{w64}
use mir.Val.{SFits}
use mir.Facts.{to_z-of_z}
use borrow.Author.Tests.{le-leb, lt-leb}
use Rattle.semantics.specs.Text.{Bytes, decimalℤ, characters}
use Rattle.semantics.specs.Tree as Tree
use Rattle.semantics.specs.Tree.{BinOp, bin_ops}
use Rattle.semantics.specs.Tree.ConstVal.{v_int, v_real, v_str}
use Rattle.std.specs.Prelude.{Result, Ok, Err}
use Rattle.semantics.specs.Fold as Fold
use Rattle.semantics.specs.Fold.{bits64, int_ok, to_real, to_whole, int_unary, real_unary, int_binary, real_binary, str_binary, fold_unary, fold_binary, fold_cast, fold_len}
use Rattle.semantics.specs.Fold.Result.{ok, failed}
use Rattle.ints.proofs.Widths.{held, from1, from2}
use Rattle.ints.proofs.Wrapping.{outcome, wrap-same}
use Rattle.write.specs.Wrote.{Wrote}
use Rattle.checks.proofs.Kept.{kept-all, wrote_kept}
use Rattle.values.specs.declared.ConstVal.{ConstVal}
use Rattle.values.specs.declared.ConstVal.TheVariants.{Int, Real, Str}
use Rattle.values.specs.declared.NoValue.{NoValue}
use Rattle.values.specs.declared.NoValue.TheVariants.{Failed, LongString}
use Rattle.codes.specs.Operators.{unary_op, binary_op}
use Rattle.codes.specs.declared.unary.Unary.{Unary}
use Rattle.codes.specs.declared.unary.Unary.TheVariants.{Neg, Not, BitNot, Ref}
use Rattle.codes.specs.declared.binary.Binary.{Binary}
use Rattle.codes.specs.declared.binary.Binary.TheVariants.{Add}
use Rattle.values.specs.Values.{string_in, value_in, result_in, basic_at, string_size, bits_for, Small, InRange, At, Within, Answers, Casts}
use Rattle.values.proofs.Written.{wrote-there, wrote-end, strings-join, string-length, integer-short}

-- ---- results

pub answers-as : {t : Bytes} {top : ℕ} {r : Result ConstVal NoValue} {e f : Fold.Result Tree.ConstVal} → e ≡ f → Answers t top r e → Answers t top r f
answers-as q a = record { value = a.value ∙ q; at = a.at }

pub answers-int : {z : ℤ} {e : Fold.Result Tree.ConstVal} → SFits w64 z → int_ok z ≡ e → (t : Bytes) (top : ℕ) → Answers t top (Ok (Int (held w64 z))) e
unfolding result_in value_in
answers-int f q t top = record { value = outcome f q; at = tt }

pub answers-real : {x : Float} {e : Fold.Result Tree.ConstVal} → ok (v_real x) ≡ e → (t : Bytes) (top : ℕ) → Answers t top (Ok (Real x)) e
unfolding result_in value_in
answers-real q t top = record { value = q; at = tt }

pub answers-failed : {e : Fold.Result Tree.ConstVal} → failed ≡ e → (t : Bytes) (top : ℕ) → Answers t top (Err Failed) e
unfolding result_in
answers-failed q t top = record { value = q; at = tt }

-- ---- the cases of unary operators

pub real-fails : (op : Unary) (x : Float) → (op ≡ Neg → ⊥) → failed ≡ real_unary (unary_op op) x
unfolding neg
real-fails Neg x a = absurd (a refl)
real-fails Not x a = refl
real-fails BitNot x a = refl
real-fails Ref x a = refl

module _ (op : Unary) {v : ConstVal} {r : Result ConstVal NoValue} where
  pub unary_of_int : {x : ℤ} → v ≡ Int x → SFits w64 x → ((t : Bytes) (top : ℕ) → Answers t top r (int_unary (unary_op op) (held w64 x))) → (t : Bytes) (top : ℕ) → Answers t top r (fold_unary (unary_op op) (value_in t v))
  unfolding value_in
  unary_of_int {x} e f a t top = rw e (answers-as (ap (int_unary (unary_op op)) (to_z-of_z f)) (a t top))

  pub unary-of : {w : ConstVal} → v ≡ w → ((t : Bytes) (top : ℕ) → Answers t top r (fold_unary (unary_op op) (value_in t w))) → (t : Bytes) (top : ℕ) → Answers t top r (fold_unary (unary_op op) (value_in t v))
  unary-of e a t top = rw e (a t top)

-- ---- the cases of binary operators

-- two values that a result of a binary operator is of
abbrev Binds : Binary → ConstVal → ConstVal → Result ConstVal NoValue → Type 0
Binds op x y r = (t : Bytes) (top : ℕ) → At top x → At (top + string_size x) y → top + 512 ≤ length t → Answers t top r (fold_binary (binary_op op) (value_in t x) (value_in t y))

pub binds : (op : Binary) {x y a b : ConstVal} {r : Result ConstVal NoValue} → x ≡ a → y ≡ b → Binds op a b r → Binds op x y r
binds op {x} {y} {a} {b} {r} p q h = subst (λ (u : ConstVal). Binds op u y r) (sym p) (subst (λ (u : ConstVal). Binds op a u r) (sym q) h)

module _ (op : Binary) {r : Result ConstVal NoValue} where
  pub binds-ints : {x y : ℤ} → SFits w64 x → SFits w64 y → ((t : Bytes) (top : ℕ) → Answers t top r (int_binary (binary_op op) (held w64 x) (held w64 y))) → Binds op (Int x) (Int y) r
  unfolding value_in
  binds-ints f g a t top h k l = answers-as (from2 (int_binary (binary_op op)) f g refl) (a t top)

  pub binds-int-real : (y : Float) {x : ℤ} {u : Float} → SFits w64 x → u ≡ to_real (held w64 x) → ((t : Bytes) (top : ℕ) → Answers t top r (real_binary (binary_op op) u y)) → Binds op (Int x) (Real y) r
  unfolding value_in
  binds-int-real y f e a t top h k l = answers-as (ap (λ (z : Float). real_binary (binary_op op) z y) (from1 to_real f e)) (a t top)

  pub binds-real-int : (x : Float) {y : ℤ} {u : Float} → SFits w64 y → u ≡ to_real (held w64 y) → ((t : Bytes) (top : ℕ) → Answers t top r (real_binary (binary_op op) x u)) → Binds op (Real x) (Int y) r
  unfolding value_in
  binds-real-int x f e a t top h k l = answers-as (ap (real_binary (binary_op op) x) (from1 to_real f e)) (a t top)

  pub binds-reals : (x y : Float) → ((t : Bytes) (top : ℕ) → Answers t top r (real_binary (binary_op op) x y)) → Binds op (Real x) (Real y) r
  unfolding value_in
  binds-reals x y a t top h k l = a t top

-- ---- strings

module _ (op : Binary) (p l m : ℕ) (t : Bytes) (room : p + l + m ≤ length t) where
  joined : length (string_in t p l ++ string_in t (p + l) m) ≡ l + m
  joined = length-append (string_in t p l) (string_in t (p + l) m) ∙ omega (arith, string-length t p l (omega arith), string-length t (p + l) m room)

  pub joins : {n : ℕ} → op ≡ Add → n ≡ l + m → n ≤ 256 → Answers t p (Ok (Str p n)) (str_binary (binary_op op) (string_in t p l) (string_in t (p + l) m))
  unfolding result_in value_in
  joins q e h = record { value = rw (q, e, le-leb (length (string_in t p l ++ string_in t (p + l) m)) 256 (omega (arith, joined))) (ap (λ (x : Bytes). ok (v_str x)) (sym (strings-join t p l m))); at = (refl, h) }

  pub joins_long : op ≡ Add → 256 < l + m → Answers t p (Err LongString) (str_binary (binary_op op) (string_in t p l) (string_in t (p + l) m))
  unfolding result_in
  joins_long q h = record { value = rw (q, lt-leb (length (string_in t p l ++ string_in t (p + l) m)) 256 (omega (arith, joined))); at = tt }

-- ---- casts

pub casts-as : {t : Bytes} {top : ℕ} {e f : Tree.ConstVal} {u : Bytes} {v : ConstVal} → e ≡ f → Casts t top e u v → Casts t top f u v
casts-as q a = record { value = a.value ∙ q; at = a.at; kept = a.kept }

module _ {code : ℕ} {x : ℤ} (f : SFits w64 x) {t : Bytes} {top : ℕ} where
  pub int-string : {u : Bytes} {b : ℕ} → code ≡ 4 → top + 256 ≤ length t → Wrote t top (decimalℤ (held w64 x)) u b → Casts t top (fold_cast (basic_at code) (v_int x)) u (Str top (b - top))
  unfolding value_in
  int-string {u} {b} q room w =
      let d : decimalℤ (held w64 x) ≡ decimalℤ x = ap decimalℤ (to_z-of_z f) in
      let s : length (decimalℤ (held w64 x)) ≤ 20 = rw d (integer-short f) in
      let l : b - top ≡ length (decimalℤ (held w64 x)) = omega (arith, wrote-end w (omega arith)) in
      record { value = rw (q, l) (ap v_str (wrote-there w (omega arith) ∙ d)); at = (refl, omega (arith, l)); kept = wrote_kept w }

module _ (code : ℕ) (t : Bytes) (top : ℕ) {v : ConstVal} where
  pub casts-real : {x : Float} {r : ConstVal} → v ≡ Real x → (value_in t r ≡ fold_cast (basic_at code) (v_real x)) × At top r → Casts t top (fold_cast (basic_at code) (value_in t v)) t r
  unfolding value_in
  casts-real e a = rw e (record { value = a.0; at = a.1; kept = kept-all })

-- ---- lengths

module _ (t : Bytes) {v : ConstVal} where
  pub string-within : {p l : ℕ} → v ≡ Str p l → Within (length t) v → (p + l ≤ length t) × (l ≤ 256)
  string-within e h = subst (Within (length t)) e h

  pub len-counts : {p l n : ℕ} → v ≡ Str p l → SFits w64 (pos n) → n ≡ characters (string_in t p l) → (top : ℕ) → Answers t top (Ok (Int (held w64 (pos n)))) (fold_len (value_in t v))
  unfolding value_in
  len-counts e f h top = rw e (answers-int f (ap (λ (k : ℕ). int_ok (pos k)) h) t top)

-- ---- kinds and bits in slots

module _ {v : ConstVal} {b : ℕ} where
  pub bits-int : {z : ℤ} → v ≡ Int z → SFits w64 z → b ≡ bits64 (held w64 z) → (b ≡ bits_for v) × InRange v
  bits-int e f d = rw e (from1 bits64 f d, wrap-same f)

whole_word : (z : ℤ) → bits64 z < 18446744073709551616
whole_word (pos n) = omega arith
whole_word (negsuc n) = omega arith

pub real-back : (x : Float) → fits binary64 x ≡ true → of_bits binary64 (to_bits binary64 x) ≡ x
real-back x h = of_bits-to_bits binary64 x (subst T (sym h) tt)

pub word : (v : ConstVal) → Small v → InRange v → bits_for v < 18446744073709551616
word (Int z) s h = whole_word z
word (Real x) s h = to_bits-lt binary64 x (subst T (sym h) tt)
word (Str p l) s h = omega arith
