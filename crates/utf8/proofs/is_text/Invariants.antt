-- `utf8::is_text` meets its contract. The bytes that the digits left write go on from the state.
use Rattle.std.proofs.Common.{◌≡◌, ◌*◌, drop}
use Rattle.utf8.specs.Utf8.{lead_of, is_text, text_from}
use Rattle.utf8.proofs.is_text.Given as goal

abbrev pub invariant-loop-i : goal.invariant-loop-i
invariant-loop-i l = is_text l.s ≡ text_from (lead_of l.a) (drop (2 * l.i) l.s)
