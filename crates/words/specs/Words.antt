-- Numbers that are stored in bytes, and digests of texts.
use Rattle.std.specs.Prelude.{ℕ, ◌+◌, ◌*◌, ◌%◌, [], ◌∷◌, take, drop, get_or}
use Rattle.semantics.specs.Text.{Bytes, from_big_endian}

-- 2 bytes, the low one first
unfoldable pub u16_at : Bytes → ℕ → ℕ
u16_at t a = get_or t a 0 + 256 * get_or t (a + 1) 0

-- 8 bytes, the highest first
unfoldable pub bits_at : Bytes → ℕ → ℕ
bits_at t a = from_big_endian 0 (take 8 (drop a t))

-- the digest of a text behind one with the digest h, a number below 256: all bytes count, since the factor is odd
unfoldable pub digest_from : ℕ → Bytes → ℕ
digest_from h [] = h
digest_from h (b ∷ bs) = digest_from ((h * 185 + b) % 256) bs

abbrev pub digest : Bytes → ℕ
digest s = digest_from 0 s
