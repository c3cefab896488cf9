use Rattle.std.proofs.Common.{List, take}
use Rattle.semantics.specs.Text.{Bytes}
use Rattle.semantics.specs.Listing.{use_row}
use Rattle.semantics.specs.Types.{id_of}
use Rattle.semantics.specs.Global.{Item}
use Rattle.semantics.specs.Sheet.{sheet_source, concat_map}
use Rattle.uses.specs.Uses.{NeedIds}
use Rattle.write.specs.Writes.{Writes}
use Rattle.uses.proofs.use_rows.Given as goal

abbrev pub invariant-loop-q : goal.invariant-loop-q
invariant-loop-q l = (s : Bytes) (is : List Item) → NeedIds s l.work l.needs l.frames → Writes l.initial.w (concat_map (use_row (id_of (sheet_source s) is)) (take l.q (sheet_source s).needs)) l.w
