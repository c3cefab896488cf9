-- Tables that stand stay as they are while others are made.
use mathlib.Core.Path.{◌≡◌, sym, ap, ◌∙◌}
use Rattle.std.specs.Prelude.{None, Some}
use Prim.Native.Nat.{ℕ, ◌+◌, ◌-◌, ◌≤◌}
use native.Mathlib.Omega.{arith}
use lib.ListN.{length, take, drop}
use lib.Seq.{drop-drop}
use Rattle.semantics.specs.Text.{Bytes}
use Rattle.checks.specs.Checks.{Checked, Kept, Outside}
use Rattle.checks.proofs.Kept.{kept_less, kept_then}
use Rattle.semantics.specs.Sheet.{sheet_source}
use Rattle.semantics.specs.Const.{constants}
use Rattle.globals.specs.declared.Globals.{Globals}
use Rattle.globals.specs.Collect as Globals
use Rattle.globals.proofs.Collect.{collected-kept}
use Rattle.record_log.specs.Entries as Records
use Rattle.records.proofs.Kept.{logged-kept}
use Rattle.need_keys.specs.declared.NeedCounts.{NeedCounts}
use Rattle.type_keys.specs.Table.{Needs, Kinds}
use Rattle.tables.specs.Tables.{TablesHeld}
use Rattle.names.specs.Table.{log_in, ConstsLogged}
use Rattle.names.proofs.Laws.{logged-same, log-stays}

drop-from : (a b : ℕ) (t u : Bytes) → a ≤ b → drop a u ≡ drop a t → drop b u ≡ drop b t
drop-from a b t u h e =
    let z : b ≡ a + (b - a) = omega arith in
    ap (λ (j : ℕ). drop j u) z ∙ sym (drop-drop (b - a) a u) ∙ ap (drop (b - a)) e ∙ drop-drop (b - a) a t ∙ ap (λ (j : ℕ). drop j t) (sym z)

-- constants stay where their table and what stands from 16384 on are kept
module _ {s t u : Bytes} {m a : ℕ} (low : a ≤ 16384) (k : Kept 7168 t u) (e : drop a u ≡ drop a t) (l : ConstsLogged s t m) where
  pub constants-logged : ConstsLogged s u m
  constants-logged = logged-same k l

  pub constants-log : log_in s u m ≡ log_in s t m
  constants-log = log-stays k l (λ p b h z. ap (take b) (drop-from a p t u (omega (arith, low, h)) e))

module _ {s t t2 t3 t4 : Bytes} {m r : ℕ} {g : Globals} {d : NeedCounts} (l : ConstsLogged s t m)
    (a : Outside 7168 9216 t t2) (places : Globals.GlobalsCollected s t2 g)
    (log : Records.RecordsCollected s t2 t3 r)
    (o : Outside 10240 11264 t3 t4) (needs : Needs s t4 (sheet_source s).needs) (kinds : Kinds t4 (sheet_source s).needs d.keys) (count : d.needs ≡ length (sheet_source s).needs)
  where
    first : ConstsLogged s t2 m
    first = constants-logged {a = 9216} (omega arith) a.kept a.above l

    second : ConstsLogged s t3 m
    second = constants-logged {a = 10240} (omega arith) (kept_less (omega arith) log.outside.kept) log.outside.above first

    pub tables-held : TablesHeld s t4 (record { consts = m; globals = g.count; end = g.end; records = r; needs = d.needs; keys = d.keys })
    tables-held = record {
      checked = log.log.checked;
      consts = constants-logged {a = 11264} (omega arith) (kept_less (omega arith) o.kept) o.above second;
      globals = collected-kept (kept_less (omega arith) o.kept) (collected-kept log.outside.kept places);
      records = logged-kept o.kept log.log;
      count = count;
      needs = needs;
      kinds = kinds;
    }

    pub tables-log : log_in s t4 m ≡ log_in s t m
    tables-log =
        constants-log {a = 11264} (omega arith) (kept_less (omega arith) o.kept) o.above second
        ∙ constants-log {a = 10240} (omega arith) (kept_less (omega arith) log.outside.kept) log.outside.above first
        ∙ constants-log {a = 9216} (omega arith) a.kept a.above l

    pub tables-kept : Kept 5120 t t4
    tables-kept = kept_then (kept_less (omega arith) a.kept) (kept_then (kept_less (omega arith) log.outside.kept) (kept_less (omega arith) o.kept))

-- ---- with the constants

pub still-checked : {s t u : Bytes} → Checked s → Kept 5120 t u → Checked s
still-checked c k = c

pub log-as : (s u : Bytes) {m j : ℕ} → j ≡ m → log_in s u m ≡ log_in s u j
log-as s u e = rw e
