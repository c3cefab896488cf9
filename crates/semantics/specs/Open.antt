-- The definitions that are shut, so that a contract that cites them stays as it is written.
-- A theorem that computes a whole sheet says `unfolding computed`, which opens them all.
use Rattle.std.specs.Prelude.{ℕ}
use Rattle.std.specs.Int.Count.{ones_in}
use Rattle.std.specs.Float.Ieee.{add, sub, mul, div, neg, of_int, to_signed, to_bits, of_bits}
use Rattle.semantics.specs.Text.{nat_of, int_of, decimal, decimalℤ, hex_of, unhex, is_name, is_utf8, characters, field_of, field_start, big_endian}
use Rattle.semantics.specs.Form.{forms, formed, node_of, read_of}
use Rattle.semantics.specs.Sheet.{nodes_from, sheet_source}
use Rattle.semantics.specs.Layout.{map_bits, map_length, pointer_map, pointer_count, records, shape_of}
use Rattle.semantics.specs.Fold.{wrap, to_real, to_whole, fold}
use Rattle.semantics.specs.Const.{constants, iota_next}
use Rattle.semantics.specs.Types.{keys, descriptors, opaque_shape}
use Rattle.semantics.specs.Listing.{record_rows, const_rows, global_row, item_row, type_rows, use_row, listing, row}
use Rattle.semantics.specs.Image.{memory_of}
use Rattle.semantics.specs.Refusal.{bad_form, bad_ref_from, too_deep_from, bad_module_from, too_many_from, compiled, imaged}

unfoldable pub computed : ℕ
unfolding nat_of int_of decimal decimalℤ hex_of unhex is_name is_utf8 characters field_of field_start forms formed node_of nodes_from sheet_source map_bits map_length pointer_map pointer_count records wrap to_real to_whole fold constants keys descriptors record_rows const_rows global_row item_row type_rows use_row listing bad_form bad_ref_from too_deep_from bad_module_from too_many_from compiled imaged big_endian read_of shape_of iota_next opaque_shape row memory_of ones_in add sub mul div neg of_int to_signed to_bits of_bits
computed = 0
