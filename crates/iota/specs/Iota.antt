-- The iota counter as the code has it: what a constant at LINE and COL gets, and the counter behind it.
use Rattle.std.specs.Prelude.{ℕ, true, cond, leb, None, Some}
use Rattle.semantics.specs.Const as Const
use Rattle.semantics.specs.Const.{iota_at, iota_next}
use Rattle.iota.specs.declared.IotaCounter.{IotaCounter}
use Rattle.iota.specs.declared.Stepped.{Stepped}

unfoldable pub counter_of : IotaCounter → Const.IotaCounter
counter_of c = record { group = cond c.started (Some (c.line, c.col)) None; value = c.value }

-- a count stays at the greatest u32
unfoldable pub capped_count : ℕ → ℕ
capped_count v = cond (leb v 4294967295) v 4294967295

-- the counter, moved on
unfoldable pub moved_of : IotaCounter → ℕ → ℕ → IotaCounter
moved_of c line col = record { started = true; line = line; col = col; value = capped_count (iota_next line col (counter_of c)).value }

abbrev pub stepped_of : IotaCounter → ℕ → ℕ → Stepped
stepped_of c line col = record { value = iota_at line col (counter_of c); next = moved_of c line col }
