-- `replay::rows::lay_item` meets its contract. Each return is one law.
use Rattle.std.proofs.Common.{◌≡◌, ap, arith}
use Rattle.laying.proofs.Steps.{moved-lays}
use Rattle.codes.specs.Kinds.{item_number}
use Rattle.replay.proofs.Texts.{lays-as, value-kind, real-test, item-values, item-string, item-array, item-moved}
use Rattle.replay.proofs.rows.lay_item.Goals as goal

pub returns-in-Str : goal.returns-in-Str
returns-in-Str c =
    let a = c.args in
    let good = c.well_formed in
    let n : item_number a.k ≡ 5 = ap item_number c.in-Str.is in
    lays-as (item-string a.work.now (item_number a.k) a.row.now a.image.now a.area.now a.s (λ h. omega arith) (omega (arith, good.1.1.1.1)) (omega (arith, good.1.1.1.1)) c.requires c.number-off.ensures.0 c.field.ensures (omega arith) n) c.lay_handle.ensures

pub returns-in-Array : goal.returns-in-Array
returns-in-Array c =
    let a = c.args in
    let good = c.well_formed in
    let n : item_number a.k ≡ 6 = ap item_number c.in-Array.is in
    lays-as (item-array a.work.now (item_number a.k) a.row.now a.image.now a.area.now a.s (λ h. omega arith) (omega (arith, good.1.1.1.1)) (omega (arith, good.1.1.1.1)) c.requires c.number-off.ensures.0 c.field.ensures (omega arith) (λ h. omega arith) n c.number-id.ensures.0 c.field-in-Array.ensures c.number-n.ensures.0 c.field-in-Array-2.ensures c.size_of.ensures) c.lay_array.ensures

pub returns-in-Set : goal.returns-in-Set
returns-in-Set c =
    let a = c.args in
    let good = c.well_formed in
    let n : item_number a.k ≡ 7 = ap item_number c.in-Set.is in
    rw n (lays-as (item-moved a.work.now 7 a.row.now a.image.now a.area.now a.s (λ h. omega arith) (omega (arith, good.1.1.1.1)) (omega (arith, good.1.1.1.1)) c.requires c.number-off.ensures.0 c.field.ensures (omega arith) (λ h. omega arith) (λ h. omega arith)) (moved-lays a.image.now a.area.now c.requires c.moved.ensures))

pub returns-in-Back : goal.returns-in-Back
returns-in-Back c =
    let a = c.args in
    let good = c.well_formed in
    let n : item_number a.k ≡ 8 = ap item_number c.in-Back.is in
    rw n (lays-as (item-moved a.work.now 8 a.row.now a.image.now a.area.now a.s (λ h. omega arith) (omega (arith, good.1.1.1.1)) (omega (arith, good.1.1.1.1)) c.requires c.number-off.ensures.0 c.field.ensures (omega arith) (λ h. omega arith) (λ h. omega arith)) (moved-lays a.image.now a.area.now c.requires c.moved-in-Back.ensures))

pub returns-in_default : goal.returns-in_default
returns-in_default c =
    let a = c.args in
    let good = c.well_formed in
    let v = value-kind a.k c.in_default.not-Str c.in_default.not-Array c.in_default.not-Set c.in_default.not-Back in
    lays-as (rw (c.eq.ensures, real-test a.k) (item-values a.work.now (item_number a.k) a.row.now a.image.now a.area.now a.s v.0 (omega (arith, good.1.1.1.1)) (omega (arith, good.1.1.1.1)) c.requires c.number-off.ensures.0 c.field.ensures v.1 c.skip-from.ensures c.width_of-w.ensures.0)) c.lay_values.ensures
