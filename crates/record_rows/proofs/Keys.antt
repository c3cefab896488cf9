-- Each key once, where it was first recorded, with its last record.
use mathlib.Core.Path.{◌≡◌, refl, sym, ap, ◌∙◌}
use mathlib.Core.Bool.{Bool, true, false, not, cond, ◌||◌}
use mathlib.Core.List.{List, [], ◌∷◌, ◌++◌, append_assoc}
use Prim.Native.Nat.{ℕ, suc, ◌+◌, ◌≤◌, ◌<◌}
use native.Mathlib.Numerals.{add-one}
use native.Mathlib.Omega.{arith}
use lib.ListN.{length, drop, take, get_or}
use lib.Seq.{drop-cons, take-suc, split_at}
use borrow.Author.Tests.{not-true, not-false}
use Rattle.semantics.specs.Text.{Bytes, same}
use Rattle.semantics.specs.Sheet.{concat_map}
use Rattle.semantics.specs.Layout.{Recorded, last_of, seen, records_by_key, records}
use Rattle.semantics.specs.Listing.{record_rows}
use Rattle.laws.proofs.Tests.{same_refl}
use Rattle.laws.proofs.Lists.{any_append, last-append}
use Rattle.write.specs.declared.Writer.{Writer}
use Rattle.write.specs.Writes.{Writes}
use Rattle.write.proofs.Writes.{writes_none, writes_then}
use Rattle.checks.specs.Checks.{Kept}
use Rattle.checks.proofs.Kept.{kept-all, kept_then, kept_less}
use Rattle.records.specs.Log.{recorded_at, log_of, no_record, RecordsLogged, LogEntry, NewestOfEntry}
use Rattle.records.proofs.Kept.{logged-kept}
use Rattle.record_rows.specs.Rows.{key_rows, all_rows, Printed}

-- ---- one entry

module _ (s t : Bytes) (i : ℕ) (l : LogEntry s t i) where
  in-log : i < length (log_of s)
  in-log = omega (arith, l.log.count, l.low)

  -- the last of all is the last from entry i on
  last-from : (d : Recorded) → last_of (get_or (log_of s) i no_record).key d (log_of s) ≡ last_of (get_or (log_of s) i no_record).key (get_or (log_of s) i no_record) (drop (suc i) (log_of s))
  last-from d =
      let r = get_or (log_of s) i no_record in
      ap (last_of r.key d) (split_at (log_of s) i no_record in-log) ∙ last-append r.key d (take i (log_of s)) (r ∷ drop (suc i) (log_of s))
      ∙ ap (λ (b : Bool). last_of r.key (cond b r (last_of r.key d (take i (log_of s)))) (drop (suc i) (log_of s))) (same_refl r.key)

  pub rows-first : {b : Bool} → b ≡ not (seen (recorded_at s t i).key (take i (log_of s))) → b ≡ true → {m : ℕ} (j : ℕ) → NewestOfEntry s t m i j → record_rows (recorded_at s t j) ≡ key_rows s i
  unfolding key_rows
  rows-first e q j w =
      let r = l.log.each i l.low in
      let z = not-true (seen (get_or (log_of s) i no_record).key (take i (log_of s))) (rw r at (sym e ∙ q)) in
      rw z (ap record_rows (sym (w.last no_record) ∙ rw r (last-from no_record)))

  pub rows-later : {b : Bool} → b ≡ not (seen (recorded_at s t i).key (take i (log_of s))) → b ≡ false → [] ≡ key_rows s i
  unfolding key_rows
  rows-later e q =
      let r = l.log.each i l.low in
      let z = not-false (seen (get_or (log_of s) i no_record).key (take i (log_of s))) (rw r at (sym e ∙ q)) in
      rw z

-- ---- all entries

or_turn : (a b : Bool) → a || b ≡ b || (a || false)
or_turn true true = refl
or_turn true false = refl
or_turn false true = refl
or_turn false false = refl

rows-cond : (b : Bool) (r : Recorded) (rs : List Recorded) → concat_map record_rows (cond b rs (r ∷ rs)) ≡ cond b [] (record_rows r) ++ concat_map record_rows rs
rows-cond true r rs = refl
rows-cond false r rs = refl

-- the rows of the keys of the first i entries are written
pub record Keying (s : Bytes) (m : ℕ) (v w : Writer) (t u : Bytes) (i : ℕ) : Type 0 where
  pub within : i ≤ m
  pub done : Bytes
  pub wrote : Writes v done w
  pub kept : Kept 49152 t u
  pub before : List Recorded
  pub met : (k : Bytes) → seen k before ≡ seen k (take i (log_of s))
  pub rest : done ++ concat_map record_rows (records_by_key before (drop i (log_of s))) ≡ all_rows s

module _ (s t : Bytes) (m : ℕ) (g : RecordsLogged s t m) (v : Writer) where
  pub keying-start : Keying s m v v t t 0
  unfolding all_rows records log_of
  keying-start = record { within = omega arith; done = []; wrote = writes_none v v.room; kept = kept-all; before = []; met = λ k. refl; rest = refl }

  module _ (x : Writer) (u : Bytes) (i : ℕ) (w : Keying s m v x t u i) where
    pub log-now : RecordsLogged s u m
    log-now = logged-kept (kept_less (omega arith) w.kept) g

    pub keying-next : i < m → (y : Writer) (z : Bytes) → Printed (key_rows s i) x y u z → Keying s m v y t z (i + 1)
    unfolding key_rows
    keying-next h y z p =
        let r = get_or (log_of s) i no_record in
        let l : i < length (log_of s) = omega (arith, g.count) in
        let rs = records_by_key (r ∷ w.before) (drop (suc i) (log_of s)) in
        let q : w.done ++ concat_map record_rows (cond (seen r.key w.before) rs (last_of r.key r (drop (suc i) (log_of s)) ∷ rs)) ≡ all_rows s = rw (drop-cons (log_of s) i no_record l) at w.rest in
        record {
          within = omega arith;
          done = w.done ++ key_rows s i;
          wrote = writes_then w.wrote p.wrote;
          kept = kept_then w.kept p.kept;
          before = r ∷ w.before;
          met = λ k. rw (w.met k, add-one i, take-suc (log_of s) i no_record l) (or_turn (same k r.key) (seen k (take i (log_of s))) ∙ sym (any_append (λ (x : Recorded). same k x.key) (take i (log_of s)) (r ∷ [])));
          rest =
              append_assoc w.done (key_rows s i) (concat_map record_rows (records_by_key (r ∷ w.before) (drop (i + 1) (log_of s))))
              ∙ rw (add-one i) (ap (λ (x : Bytes). w.done ++ x) (sym (rows-cond (seen r.key w.before) (last_of r.key r (drop (suc i) (log_of s))) rs ∙ rw (w.met r.key))) ∙ q);
        }
