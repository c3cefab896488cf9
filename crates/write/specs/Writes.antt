-- What a writer leaves.
use Rattle.std.specs.Prelude.{◌≡◌}
use Rattle.semantics.specs.Text.{Bytes}
use Rattle.write.specs.Wrote.{Wrote}
use Rattle.write.specs.declared.Writer.{Writer}

-- the writer v wrote t, and is w then: it still writes to the same buffer
pub record Writes (v : Writer) (t : Bytes) (w : Writer) : Type 0 where
  pub same_buffer : w.out.ghost_name ≡ v.out.ghost_name
  pub wrote : Wrote v.out.now v.at t w.out.now w.at
