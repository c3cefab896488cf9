use mathlib.Core.Path.{refl}
use Rattle.type_lines.specs.Needs.{need_at}
use Rattle.semantics.specs.Types.{key_shape}
use Rattle.records.specs.Log.{log_of}
use Rattle.type_row.specs.Row.{word_offsets}
use Rattle.type_rows.proofs.Needs.{unknown-size, unknown-words, known-shape}
use Rattle.type_row.proofs.Maps.{shape_is, types-as}
use Rattle.type_rows.proofs.record.put_record.Goals as goal

pub returns-in-None : goal.returns-in-None
returns-in-None c = types-as (shape_is (key_shape (log_of c.args.sheet.now) (need_at c.args.sheet.now c.args.i)) 4 (word_offsets 0) (unknown-size c.args.sheet.now c.args.work.now c.args.i c.requires.1 c.requires.2 c.field_at-key.result.now c.field_at-key.ensures.0 c.in-None.ensures refl) (unknown-words c.args.sheet.now c.args.work.now c.args.i c.requires.1 c.requires.2 c.field_at-key.result.now c.field_at-key.ensures.0 c.in-None.ensures refl)) c.put_words.ensures

pub returns-in-Some : goal.returns-in-Some
returns-in-Some c = types-as (known-shape c.args.sheet.now c.args.work.now c.args.i c.requires.1 c.requires.2 c.field_at-key.result.now c.field_at-key.ensures.0 c.in-Some.ensures c.args.entries c.requires.0 refl) c.put_entry.ensures
