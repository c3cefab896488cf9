-- What a write leaves.
use Rattle.std.specs.Prelude.{ℕ, ◌+◌, min, ◌≡◌, length}
use Rattle.std.proofs.lemmas.List.Edits.{sets}
use Rattle.semantics.specs.Text.{Bytes}

-- d with t stored from a on, as far as d goes
unfoldable pub over : Bytes → ℕ → Bytes → Bytes
over d a t = sets d a t

-- t was written on d at a: d is e then, and the next place is b, one past the end of d where t did not fit
pub record Wrote (d : Bytes) (a : ℕ) (t e : Bytes) (b : ℕ) : Type 0 where
  pub bytes : e ≡ over d a t
  pub place : b ≡ min (a + length t) (length d + 1)
