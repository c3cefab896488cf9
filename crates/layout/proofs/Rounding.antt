-- Rounding up to an alignment.
use Prim.Native.Nat.{ℕ, suc, ◌+◌, ◌-◌, ◌*◌, ◌/◌, ◌%◌, ◌≤◌, ◌<◌}
use native.Mathlib.Nat.{mul-zero, suc-mul, mul-mod_left, div-mul-le_self, div-add-mod', lt-div-mul-add, div-lt_iff_lt-mul, mul-le-mul_right}
use native.Mathlib.Omega.{arith}
use mathlib.Core.Path.{◌≡◌}
use Rattle.semantics.specs.Layout.{align_up}

pub zero-align : (n : ℕ) → align_up 0 n ≡ 0
zero-align n = mul-zero ((n + (0 - 1)) / 0)

pub below_next : (a n : ℕ) → align_up a n ≤ n + (a - 1)
below_next a n = div-mul-le_self (n + (a - 1)) a

no-smaller : (a n m : ℕ) → 0 < a → m % a ≡ 0 → n ≤ m → align_up a n ≤ m
no-smaller a n m h d l =
    let e : m / a * a ≡ m = omega (arith, div-add-mod' m a) in
    let q : (n + (a - 1)) / a < suc (m / a) = (div-lt_iff_lt-mul h).1 (omega (arith, suc-mul (m / a) a)) in
    let r : (n + (a - 1)) / a ≤ m / a = omega arith in
    omega (arith, mul-le-mul_right a r)

-- the multiple that is within one alignment behind the offset
pub multiple-is : (a n r : ℕ) → 0 < a → r % a ≡ 0 → n ≤ r → r < n + a → r ≡ align_up a n
multiple-is a n r h d l u =
    let e : r / a * a ≡ r = omega (arith, div-add-mod' r a) in
    let m : n ≤ align_up a n = omega (arith, lt-div-mul-add {a = n + (a - 1)} h) in
    let k : r / a < suc ((n + (a - 1)) / a) = (div-lt_iff_lt-mul h).1 (omega (arith, suc-mul ((n + (a - 1)) / a) a)) in
    let t : r / a ≤ (n + (a - 1)) / a = omega arith in
    omega (arith, e, mul-le-mul_right a t, no-smaller a n r h d l)

-- 01's words: rounding up to an alignment gives the least multiple not below the offset
pub least-multiple : (a n : ℕ) → 0 < a → (align_up a n % a ≡ 0) × (n ≤ align_up a n) × ((m : ℕ) → m % a ≡ 0 → n ≤ m → align_up a n ≤ m)
least-multiple a n h =
    (mul-mod_left ((n + (a - 1)) / a) a, omega (arith, lt-div-mul-add {a = n + (a - 1)} h), λ m d l. no-smaller a n m h d l)
