-- The size that a literal's line gives.
use mathlib.Core.Path.{◌≡◌, sym, ◌∙◌}
use mathlib.Core.List.{[]}
use Prim.Native.Nat.{ℕ, ◌-◌, ◌≤◌}
use native.Mathlib.Omega.{arith}
use lib.ListN.{length, get_or}
use Rattle.checks.specs.Checks.{KindLine}
use Rattle.semantics.specs.Text.{Bytes}
use Rattle.semantics.specs.Form.{number_of}
use Rattle.semantics.specs.Fold.{bind, Names}
use Rattle.semantics.specs.Fold.Result.{ok}
use Rattle.semantics.specs.Array.{Filled, as_size, literal_size}
use Rattle.decimal.specs.Number as Number
use Rattle.lines.specs.Lines.{read_at, nodes_in}
use Rattle.values.specs.declared.ConstVal.{ConstVal}
use Rattle.values.specs.Values.{result_in, answered, Outcome}
use Rattle.names.specs.Table.{ConstsLogged, names_in}
use Rattle.leaf.specs.Folds.{Foldable, Folds}
use Rattle.literals.specs.Literals.{LiteralLine, above}
use Rattle.literals.proofs.Lines.{may-line, maybe-given, maybe-absent}
use Rattle.literals.proofs.Selectors.{foldable, folds-to}
use Rattle.literals.proofs.Turns.{literal-refs}
use Rattle.arrays.specs.Arrays.{lit_size}

module _ {s : Bytes} {r : ℕ} (k : LiteralLine s r) {q : ℕ} (hq : q ≡ Number.number_up_to 65536 (get_or (read_at s (r - 1)).fields 0 [])) where
  size-line : (q ≡ number_of (get_or (read_at s (r - 1)).fields 0 [])) × ((q ≡ 0 → ⊥) → KindLine 69 s q)
  size-line = may-line k.line 69 (get_or (read_at s (r - 1)).fields 0 []) q hq (literal-refs k).0

  pub size-foldable : {t : Bytes} {m : ℕ} → ConstsLogged s t m → 62464 ≤ length t → (q ≡ 0 → ⊥) → Foldable s t m q (above 16)
  size-foldable g long z = foldable {e = 16} (record { line = size-line.1 z; log = g; few = omega arith }) long

  pub size_none : (ns : Names) {reach : ℕ} → q ≡ 0 → (f : Filled) → reach ≡ f.reach → ok reach ≡ literal_size ns (lit_size s r) f
  size_none ns z f e = rw (← size-line.0, maybe-absent (nodes_in s) q z, e)

  pub size-given : (q ≡ 0 → ⊥) → {t : Bytes} {m : ℕ} {u : Bytes} {x : Outcome ConstVal} → Folds s t m 0 q (above 16) u x → (y : Outcome ℕ) → answered y ≡ bind (result_in u x) as_size → (f : Filled) → answered y ≡ literal_size (names_in s t m) (lit_size s r) f
  size-given z g y h f = rw (folds-to g) at h ∙ sym (rw (← size-line.0, maybe-given (nodes_in s) q z))
