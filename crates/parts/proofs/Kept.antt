-- The tables of a checked sheet stay while rows are written.
use mathlib.Core.Path.{sym, ◌∙◌}
use mathlib.Core.List.{List}
use Prim.Native.Nat.{ℕ}
use native.Mathlib.Omega.{arith}
use lib.ListN.{length, drop_of_length-le}
use Rattle.semantics.specs.Text.{Bytes}
use Rattle.semantics.specs.Tree.{TypeKey}
use Rattle.checks.specs.Checks.{Kept}
use Rattle.checks.proofs.Kept.{kept_at, kept_less}
use Rattle.names.specs.Table as Names
use Rattle.globals.proofs.Collect.{collected-kept}
use Rattle.records.proofs.Kept as Records
use Rattle.placements.specs.Placements.{Keeps}
use Rattle.literals.proofs.Names.{kept_low, logged-kept, log-kept}
use Rattle.type_keys.specs.Table.{Needs}
use Rattle.type_keys.proofs.Table.{kinds_kept}
use Rattle.type_keys.proofs.Positions.{needs-kept}
use Rattle.tables.specs.declared.Tables.{Tables}
use Rattle.tables.specs.Tables.{TablesHeld}
use Rattle.parts.specs.Parts.{Listable}

-- lines and positions of needs end at 10624; their digests serve only while needs are collected
pub needs_stay : {s t u : Bytes} {ks : List TypeKey} → Kept 10624 t u → Needs s t ks → Needs s u ks
needs_stay {s} {t} {u} {ks} k x =
    needs-kept s t ks x u {b = length t} (record { kept = k; above = drop_of_length-le u {i = length t} (omega (arith, k.long)) ∙ sym (drop_of_length-le t {i = length t} (omega arith)) })

module _ {s t u : Bytes} {x : Tables} where
  -- but for the constants' strings
  held_kept : Kept 11264 t u → Names.ConstsLogged s u x.consts → TablesHeld s t x → TablesHeld s u x
  held_kept k l h = record {
    checked = h.checked;
    consts = l;
    globals = collected-kept (kept_less (omega arith) k) h.globals;
    records = Records.logged-kept (kept_less (omega arith) k) h.records;
    count = h.count;
    needs = needs_stay (kept_less (omega arith) k) h.needs;
    kinds = kinds_kept (kept_less (omega arith) k) h.kinds;
  }

  -- where values are folded
  pub listable-keeps : Keeps 16384 49152 t u → Listable s t x → Listable s u x
  listable-keeps k h = record {
    held = held_kept (kept_low k 11264 (omega arith)) (logged-kept k h.held.consts) h.held;
    folded = h.folded;
    log = h.log ∙ sym (log-kept k h.held.consts);
  }

  -- where maps are made
  pub listable-kept : Kept 49152 t u → Listable s t x → Listable s u x
  listable-kept k h = listable-keeps (record { long = k.long; below = λ j l. kept_at k j (omega arith); above = λ j a l. kept_at k j l }) h
