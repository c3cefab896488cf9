-- Laws of a writer's writes.
use Rattle.std.proofs.Common.{ℕ, zero, suc, ◌+◌, ◌-◌, ◌/◌, ◌%◌, ◌^◌, ◌≡◌, ◌≤◌, ◌<◌, ◌∙◌, refl, sym, ap, arith, [], ◌∷◌, ◌++◌, length, take, drop, get_or, min, Bool, ltb, ℤ, pos, negsuc, unsigned_abs, true, false}
use Rattle.std.specs.Int.{bytes_high_first}
use lib.Signed.{lt_z}
use borrow.Author.Tests.{ltb-true, ltb-false}
use lib.Seq.{take_all, take-suc}
use native.Mathlib.Numerals.{add-one}
use native.Mathlib.Nat.{zero-add, suc-add}
use Rattle.semantics.specs.Text.{Bytes, decimal, decimalℤ, hex_digit, hex_of, big_endian}
use Rattle.write.specs.declared.Writer.{Writer}
use Rattle.write.specs.Wrote.{Wrote, over}
use Rattle.write.specs.Writes.{Writes}
use Rattle.write.proofs.Wrote.{over-out, then, wrote_none}
use Rattle.write.proofs.Decimal.{decimal-one}
use Rattle.semantics.proofs.Common.{never}
use Rattle.write.proofs.Hex.{hex-append, big-length}

-- nothing
pub writes_none : (w : Writer) → w.at ≤ length w.out.now + 1 → Writes w [] w
writes_none w h = record { same_buffer = refl; wrote = wrote_none w.out.now w.at h }

-- one write after another
pub writes_then : {u v w : Writer} {s t : Bytes} → Writes u s v → Writes v t w → Writes u (s ++ t) w
writes_then a b = record { same_buffer = b.same_buffer ∙ a.same_buffer; wrote = then a.wrote b.wrote }

-- what a writer from a place on wrote: f is the buffer in the end
pub writes_from : {d t f : Bytes} {a : ℕ} {v w : Writer} → v.out.now ≡ d → v.at ≡ min a (length d + 1) → Writes v t w → f ≡ w.out.now → Wrote d a t f w.at
writes_from {d} {t} {f} {a} {v} {w} q p x z = record {
  bytes = z ∙ y.bytes ∙ go (ltb (length d) a) refl;
  place = omega (arith, y.place, p);
}
  where
    y : Wrote d v.at t w.out.now w.at
    y = rw q at x.wrote

    go : (b : Bool) → ltb (length d) a ≡ b → over d v.at t ≡ over d a t
    go false e =
        let h : a ≤ length d = ltb-false _ _ e in
        let k : v.at ≡ a = omega (arith, p) in
        ap (λ (j : ℕ). over d j t) k
    go true e =
        let h : length d < a = ltb-true _ _ e in
        over-out d v.at t (omega (arith, p)) ∙ sym (over-out d a t (omega arith))

-- the same text said otherwise
pub writes_as : {v w : Writer} {s t : Bytes} → s ≡ t → Writes v s w → Writes v t w
writes_as q w = rw (← q) w

-- one more byte of a list
pub writes_next : (s : Bytes) (k : ℕ) → k < length s → {u v w : Writer} → Writes u (take k s) v → Writes v (get_or s k 0 ∷ []) w → Writes u (take (k + 1) s) w
writes_next s k h a b = rw (add-one, take-suc s k 0 h) (writes_then a b)

-- the digits of one more byte of a list
pub writes_hex_next : (s : Bytes) (k : ℕ) → k < length s → {u v w : Writer} → Writes u (hex_of (take k s)) v → Writes v (hex_of (get_or s k 0 ∷ [])) w → Writes u (hex_of (take (k + 1) s)) w
writes_hex_next s k h a b = rw (add-one, take-suc {A = ℕ} s k 0 h, hex-append) (writes_then a b)

-- the same of a buffer and a place
pub wrote_hex_next : (s : Bytes) (k : ℕ) → k < length s → {d : Bytes} {a : ℕ} {e : Bytes} {b : ℕ} {f : Bytes} {c : ℕ}
    → Wrote d a (hex_of (take k s)) e b → Wrote e b (hex_of (get_or s k 0 ∷ [])) f c → Wrote d a (hex_of (take (k + 1) s)) f c
wrote_hex_next s k h v w = rw (add-one, take-suc {A = ℕ} s k 0 h, hex-append) (then v w)

-- ---- the digits of a byte, and a number's bytes

pub hex-of-byte : (b : ℕ) → hex_digit (b / 16) ∷ (hex_digit (b % 16) ∷ []) ≡ hex_of (b ∷ [])
unfolding hex_of
hex-of-byte b = refl

pub big-endian-is : (k n : ℕ) → bytes_high_first k n ≡ big_endian k n
unfolding big_endian
big-endian-is zero n = refl
big-endian-is (suc zero) n = let q : n ≡ n / 1 = omega arith in ap (λ (m : ℕ). m % 256 ∷ []) q
big-endian-is (suc (suc k)) n = ap (λ (l : Bytes). n / 256 ^ suc k % 256 ∷ l) (big-endian-is (suc k) n)

low-bytes : (j k n : ℕ) → drop j (bytes_high_first (j + k) n) ≡ bytes_high_first k n
low-bytes zero k n = rw zero-add
low-bytes (suc j) k n = rw suc-add (low-bytes j k n)

-- the last w of eight bytes
pub last-bytes : (w n : ℕ) → w ≤ 8 → take (8 - (8 - w)) (drop (8 - w) (bytes_high_first 8 n)) ≡ big_endian w n
last-bytes w n h =
    let q : 8 ≡ (8 - w) + w = omega arith in
    let e : drop (8 - w) (bytes_high_first 8 n) ≡ big_endian w n = ap (λ (k : ℕ). drop (8 - w) (bytes_high_first k n)) q ∙ low-bytes (8 - w) w n ∙ big-endian-is w n in
    rw e (take_all _ _ (omega (arith, big-length w n)))

pub decimal-one-digit : (n : ℕ) → n ≤ 9 → decimal n ≡ (48 + n % 10) ∷ []
decimal-one-digit n h = let q : n % 10 ≡ n = omega arith in decimal-one n (omega arith) ∙ ap (λ (d : ℕ). (48 + d) ∷ []) (sym q)

-- the text of an integer by its magnitude
pub int-plus : (n : ℤ) {m : ℕ} → lt_z n (pos 0) ≡ false → m ≡ unsigned_abs n → decimal m ≡ decimalℤ n
unfolding decimalℤ
int-plus (pos n) h e = ap decimal e
int-plus (negsuc n) h e = never (sym h)

pub int-minus : (n : ℤ) {m : ℕ} → lt_z n (pos 0) ≡ true → m ≡ unsigned_abs n → 45 ∷ decimal m ≡ decimalℤ n
unfolding decimalℤ
int-minus (pos n) h e = absurd (omega (arith, ltb-true _ _ h))
int-minus (negsuc n) h e = ap (λ (k : ℕ). 45 ∷ decimal k) e
