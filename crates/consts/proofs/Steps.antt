-- Laws of one constant.
use mathlib.Core.Path.{◌≡◌, sym, ap, ◌∙◌}
use mathlib.Core.List.{[], ◌++◌}
use Rattle.std.specs.Prelude.{Option, None, Some}
use Prim.Native.Nat.{ℕ, ◌+◌, ◌-◌, ◌*◌, ◌≤◌}
use native.Mathlib.Numerals.{add-one}
use native.Mathlib.Omega.{arith}
use lib.IntN.{pos}
use lib.ListN.{length, get_or}
use Rattle.semantics.specs.Text.{Bytes}
use Rattle.semantics.specs.Tree as Tree
use Rattle.semantics.specs.Form.{node_at}
use Rattle.semantics.specs.Sheet.{sheet_source}
use Rattle.semantics.specs.Fold.{fold}
use Rattle.semantics.specs.Const.{entries}
use Rattle.decimal.specs.Number as Number
use Rattle.lines.specs.Lines.{read_at, nodes_in}
use Rattle.implement.specs.Modules.{first_field, module_at}
use Rattle.checks.specs.Checks.{Kept}
use Rattle.checks.proofs.Kept.{kept_then, kept_less}
use Rattle.chains.specs.Chains.{linked}
use Rattle.names.specs.Table.{const_chains, const_digest, log_in, names_in, ConstsLogged}
use Rattle.names.proofs.Laws.{logged-kept, log-kept}
use Rattle.values.specs.declared.ConstVal.{ConstVal}
use Rattle.std.specs.Prelude.{Ok, Err}
use Rattle.values.specs.declared.NoValue.TheVariants.{Failed, LongString}
use Rattle.values.specs.Values.{Outcome, value_in, result_in, kind_for, bits_for, InRange, At}
use Rattle.write.specs.Wrote.{over}
use Rattle.entries.specs.Entering.{entry_of, moved_to, string_of, EntryRoom}
use Rattle.entries.proofs.Laws.{Entered, entered-value, entered-failed}
use Rattle.leaf.specs.Folds.{fold_at, Foldable, Folds}
use Rattle.fold.proofs.Steps.{foldable}
use Rattle.answers.specs.declared.Refusal.TheVariants as Refused
use Rattle.consts.specs.Passes.{const_at, ConstLine, too_long, ConstantEntered}
use Rattle.consts.proofs.Lines.{ex-number, ex-line}

name-is : (s : Bytes) (i : ℕ) → first_field s (i + 1) ≡ get_or (read_at s i).fields 0 []
name-is s i = let e : i + 1 - 1 ≡ i = omega arith in rw e

pub digest-is : (s : Bytes) (k i : ℕ) {d : ℕ} {x : Bytes} → x ≡ get_or (read_at s i).fields 0 [] → d ≡ const_digest s k x → d ≡ const_digest s k (first_field s (i + 1))
digest-is s k i h e = e ∙ ap (const_digest s k) (h ∙ sym (name-is s i))

-- there is room for one more entry
pub free : {s t : Bytes} {m k i : ℕ} → ConstLine s t m k i → EntryRoom m (i + 1) k
free l = record { few = l.few; first = omega arith; last = omega (arith, l.line, l.checked.whole.few); owner = omega (arith, l.group, l.checked.whole.few) }

module _ (s t : Bytes) (m k i : ℕ) (l : ConstLine s t m k i) (r : ℕ) (is : r ≡ Number.number_up_to 65536 (get_or (read_at s i).fields 3 [])) where
  pub value-foldable : 62464 ≤ length t → Foldable s t m r 49152
  value-foldable long = foldable (ex-line s i l.checked l.line l.kind r is) l.logged (omega arith) (omega arith)

  module _ (iota : ℕ) (u : Bytes) (x : Outcome ConstVal) (f : Folds s t m iota r 49152 u x) where
    -- the fold, by what the code has
    fold_is : {y : Outcome ConstVal} → x ≡ y → fold (names_in s t m) (pos iota) (const_at s k i).it.value ≡ result_in u y
    unfolding fold_at
    fold_is q =
        ap (λ (j : ℕ). fold (names_in s t m) (pos iota) (node_at (nodes_in s) j).ex) (sym (ex-number s i l.checked l.line l.kind r is))
        ∙ sym f.answer.value ∙ ap (result_in u) q

    module _ (o : Option Tree.ConstVal) (w : Bytes) (e : Entered s u m (i + 1) k o w) where
      log_is : log_in s w (m + 1) ≡ entries (sheet_source s).implement (module_at s k) (get_or (read_at s i).fields 0 []) o ++ log_in s t m
      log_is = e.log ∙ rw (name-is s i, log-kept f.kept l.logged)

      all-kept : Kept 5120 t w
      all-kept = kept_then (kept_less (omega arith) f.kept) e.kept

    pub at_value : {v : ConstVal} → x ≡ Ok v → At 49152 v
    at_value q = rw q at f.answer.at

    log-after : ConstsLogged s u m
    log-after = logged-kept f.kept l.logged

    module _ {d : ℕ} (named : d ≡ const_digest s k (first_field s (i + 1))) (long : 62464 ≤ length u) (w : Bytes) where
      pub took-value : {v : ConstVal} → x ≡ Ok v → (w ≡ linked (over (over u (16384 + 256 * m) (string_of u v)) (5120 + 16 * m) (entry_of (i + 1) k (kind_for v) (bits_for (moved_to (16384 + 256 * m) v)) d)) const_chains m) × InRange v → Kept 5120 t w × ConstantEntered s t w m k i iota (Ok (tt {0}))
      unfolding result_in
      took-value {v} q h =
          let e = entered-value u w m (i + 1) k d (free l) long v (at_value q) h s (omega (arith, l.line)) l.group named log-after in
          (all-kept (Some (value_in u v)) w e, (e.logged, λ go. rw (fold_is q, log_is (Some (value_in u v)) w e)))

      pub took-failed : x ≡ Err Failed → w ≡ linked (over u (5120 + 16 * m) (entry_of (i + 1) k 0 0 d)) const_chains m → Kept 5120 t w × ConstantEntered s t w m k i iota (Ok (tt {0}))
      unfolding result_in
      took-failed q h =
          let e = entered-failed u w m (i + 1) k d (free l) long h s (omega (arith, l.line)) l.group named log-after in
          (all-kept None w e, (e.logged, λ go. rw (fold_is q, log_is None w e)))

    pub took-none : x ≡ Err LongString → Kept 5120 t u × ConstantEntered s t u m k i iota (Err (Refused.LongString (i + 1)))
    unfolding result_in
    took-none q = (kept_less (omega arith) f.kept, (λ go. rw (fold_is q, add-one i), ap too_long (add-one i)))
