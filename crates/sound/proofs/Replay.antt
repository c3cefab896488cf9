-- What the replay of a checked sheet's listing leaves is what the definition says of its items.
use Prim.Native.Nat.{ℕ}
use mathlib.Core.Path.{◌≡◌}
use lib.ListN.{length}
use Rattle.semantics.specs.Text.{Bytes}
use Rattle.semantics.specs.Sheet.{sheet_source}
use Rattle.semantics.specs.Refusal.{Buffers, replayed, source_globals, source_listing}
use Rattle.checks.specs.Checks.{Checked}
use Rattle.std.specs.Prelude.{Option}
use Rattle.replay.specs.Whole.{Replays}
use Rattle.replay.proofs.Meets.{Meets, sheet-meets}
use Rattle.sound.proofs.Facts.{plain-source, few-frames, few-needs, sound-firsts}

pub sheet-replayed : (s : Bytes) → Checked s → (b : Buffers) {u v image image' area area' : Bytes} {r : Option (ℕ × ℕ)} → length image ≡ b.image → length area ≡ b.area
    → Replays (source_listing (sheet_source s)) (source_globals (sheet_source s)).end u v image image' area area' r
    → Meets (replayed b (source_globals (sheet_source s))) b.image b.area r image' area'
sheet-replayed s c b = sheet-meets (sheet_source s) b (plain-source s c) (few-frames s c) (few-needs s c) (sound-firsts s c)
