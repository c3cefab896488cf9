-- `leaf::constant` meets its contract.
use Rattle.codes.specs.declared.value.Value.TheVariants as V
use Rattle.codes.proofs.Values.{value-number, no-value}
use Rattle.leaf.proofs.Leaves.{found_none, found-int, found-real, found-apart, found-string, found-failed}
use Rattle.leaf.proofs.constant.Goals as goal

pub returns-in_default : goal.returns-in_default
returns-in_default c = found_none c.requires c.in_default.is

pub returns-in-Some-Int : goal.returns-in-Some-Int
returns-in-Some-Int c =
    let n = value-number c.slot_kind.result V.Int (rw c.in-Some-Int.field-0-is at c.in-Some-Int.ensures) in
    found-int c.requires c.in-Some.is c.slot_kind.ensures c.slot_bits-b.ensures n (record { sfits = c.of_bits.type_inv }) c.of_bits.ensures

pub returns-in-Some-Real : goal.returns-in-Some-Real
returns-in-Some-Real c =
    let n = value-number c.slot_kind.result V.Real (rw c.in-Some-Real.field-0-is at c.in-Some-Real.ensures) in
    found-real c.requires c.in-Some.is c.slot_kind.ensures c.slot_bits-b.ensures n c.of_bits-in-Some-Real.ensures

pub copy-requires : goal.copy-requires
copy-requires c =
    let n = value-number c.slot_kind.result V.Str (rw c.in-Some-Str.field-0-is at c.in-Some-Str.ensures) in
    found-apart c.requires c.in-Some.is c.slot_kind.ensures c.slot_bits-b.ensures n

pub returns-in-Some-Str : goal.returns-in-Some-Str
returns-in-Some-Str c =
    let n = value-number c.slot_kind.result V.Str (rw c.in-Some-Str.field-0-is at c.in-Some-Str.ensures) in
    found-string c.requires c.in-Some.is c.slot_kind.ensures c.slot_bits-b.ensures n c.copy.ensures

pub returns-in-None : goal.returns-in-None
returns-in-None c =
    let n = no-value c.slot_kind.result c.in-None.ensures in
    found-failed c.requires c.in-Some.is c.slot_kind.ensures c.slot_bits-b.ensures n.0 n.1 n.2
