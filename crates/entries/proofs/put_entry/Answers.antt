-- `entries::put_entry` meets its contract.
use Rattle.names.proofs.Laws.{const-room}
use native.Mathlib.Omega.{arith}
use borrow.Author.Rules.{rules}
use Rattle.entries.proofs.put_entry.Goals as goal

pub link-requires : goal.link-requires
link-requires c = (const-room (search rules), omega (arith, c.requires.0.few))
