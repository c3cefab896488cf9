-- What a write leaves: what stands below it is kept, and what was written can be read there.
use Prim.Native.Nat.{ℕ, suc, ◌+◌, ◌^◌, ◌≤◌, ◌<◌}
use mathlib.Core.Path.{◌≡◌, sym, ap, ◌∙◌}
use mathlib.Core.List.{◌++◌, append_assoc}
use native.Mathlib.Omega.{arith}
use lib.IntN.{ℤ, pos, negsuc}
use lib.ListN.{length, take, drop, length-drop}
use lib.Seq.{paste, take-add, drop-drop, length-take-le}
use mir.Syntax.{w64}
use mir.Val.{SFits}
use Rattle.semantics.specs.Text.{Bytes, decimalℤ}
use Rattle.write.specs.Wrote.{Wrote, over}
use Rattle.write.proofs.Over.{over-there, over-is}
use Rattle.write.proofs.Decimal.{decimal-short}
use Rattle.values.specs.Values.{string_in, RunsApart}

-- ---- a write

module _ {d : Bytes} {a : ℕ} {t e : Bytes} {b : ℕ} (w : Wrote d a t e b) where
  pub wrote-there : a + length t ≤ length d → string_in e a (length t) ≡ t
  unfolding string_in
  wrote-there h = rw w.bytes (over-there d a t h)

  pub wrote-end : a + length t ≤ length d → b ≡ a + length t
  wrote-end h = omega (arith, w.place)

-- ---- a copy

-- what `copy_within` leaves
pub copied : (t : Bytes) {from to len n : ℕ} → RunsApart (length t) from to len → n ≡ len → paste t to (drop from t) n ≡ over t to (take len (drop from t))
copied t {from} {to} {len} x e =
    let l : length (take len (drop from t)) ≡ len = length-take-le len (drop from t) (omega (arith, x.source, length-drop from t)) in
    rw e (append_assoc (take to t) (take len (drop from t)) (drop (to + len) t)
    ∙ ap (λ (k : ℕ). take to t ++ (take len (drop from t) ++ drop (to + k) t)) (sym l)
    ∙ sym (over-is t to (take len (drop from t)) (omega (arith, x.target, l))))

-- ---- two strings, one behind the other

pub strings-join : (t : Bytes) (p l m : ℕ) → string_in t p l ++ string_in t (p + l) m ≡ string_in t p (l + m)
unfolding string_in
strings-join t p l m = sym (take-add l m (drop p t) ∙ ap (λ (x : Bytes). take l (drop p t) ++ take m x) (drop-drop l p t))

pub string-length : (t : Bytes) (p l : ℕ) → p + l ≤ length t → length (string_in t p l) ≡ l
unfolding string_in
string-length t p l h = length-take-le l (drop p t) (omega (arith, length-drop p t))

-- ---- decimals are short

pub integer-short : {z : ℤ} → SFits w64 z → length (decimalℤ z) ≤ 20
unfolding decimalℤ
integer-short {z = pos n} f = omega (arith, decimal-short 18 n (wide n f.sfits))
  where
    wide : (n : ℕ) → n < 9223372036854775808 → n < 10 ^ 19
    wide n h = omega arith
integer-short {z = negsuc n} f = omega (arith, decimal-short 18 (suc n) (wide n f.sfits))
  where
    wide : (n : ℕ) → n < 9223372036854775808 → suc n < 10 ^ 19
    wide n h = omega arith
