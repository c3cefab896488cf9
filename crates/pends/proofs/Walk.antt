-- The walk over all lines.
use mathlib.Core.Path.{◌≡◌, refl, sym, ap, ◌∙◌, subst}
use mathlib.Core.Bool.{Bool, true, false, cond}
use mathlib.Core.List.{List, [], ◌∷◌, ◌++◌}
use Rattle.std.specs.Prelude.{Option, None, Some, Ok, Err}
use Rattle.std.specs.Prelude as Std
use Prim.Native.Nat.{ℕ, zero, suc, ◌+◌, ◌-◌, ◌≤◌, ◌<◌}
use native.Mathlib.Numerals.{add-one}
use native.Mathlib.Omega.{arith}
use lib.Dec.{eqb}
use lib.ListN.{length}
use Rattle.semantics.specs.Text.{Bytes}
use Rattle.semantics.specs.Tree.{VarDecl}
use Rattle.semantics.specs.Form.{letter}
use Rattle.semantics.specs.Sheet.{Located, concat_map, sheet_source}
use Rattle.semantics.specs.Fold.{Result, Names}
use Rattle.semantics.specs.Fold.Result.{ok, failed, refuse}
use Rattle.semantics.specs.Const.{Refusal}
use Rattle.semantics.specs.Global.{var_value, refused_by, vars_refused}
use Rattle.semantics.specs.Listing.{pend_row}
use Rattle.laws.proofs.Lists.{concat-append}
use Rattle.write.specs.declared.Writer.{Writer}
use Rattle.write.specs.Writes.{Writes}
use Rattle.write.proofs.Writes.{writes_none, writes_then, writes_as}
use Rattle.lines.specs.Lines.{lines_in, read_at, nodes_in}
use Rattle.checks.specs.Checks.{Checked}
use Rattle.source.specs.Walk.{open_at}
use Rattle.implement.specs.Modules.{module_at, Open}
use Rattle.names.specs.Table.{ConstsLogged, ConstTable, names_in}
use Rattle.placements.specs.Placements.{Keeps}
use Rattle.placements.proofs.Same.{keeps-all, keeps_then}
use Rattle.literals.proofs.Names.{kept_low, log-kept, logged-kept}
use Rattle.implement.specs.Modules.{own_in}
use Rattle.globals.specs.Vars.{located_at, laid_at, laid_on, laid_vars_to, var_pends}
use Rattle.globals.proofs.Vars.{pends-by, laid-lines}
use Rattle.answers.specs.declared.Refusal.{Refusal as Refused}
use Rattle.answers.specs.Answers.{refusal_line, refusal_of}
use Rattle.vars.proofs.Items.{refused-append}
use Rattle.pends.specs.Pends.{pends_of, Pended, AllPended}

-- ---- lines one after the other: the first that is refused

rows_append : (ns : Names) (vs ws : List (Located VarDecl)) → concat_map pend_row (pends_of ns (vs ++ ws)) ≡ concat_map pend_row (pends_of ns vs) ++ concat_map pend_row (pends_of ns ws)
rows_append ns vs ws = ap (concat_map pend_row) (concat-append (λ (v : Located VarDecl). var_pends ns v.it) vs ws) ∙ concat-append pend_row (pends_of ns vs) (pends_of ns ws)

pended-then : (ns : Names) (vs ws : List (Located VarDecl)) {u v w : Writer} → Pended ns vs u (Ok tt) v → Pended ns ws v (Ok tt) w → Pended ns (vs ++ ws) u (Ok tt) w
pended-then ns vs ws h k = (refused-append ns vs ws ∙ rw (h.0, k.0), writes_as (sym (rows_append ns vs ws)) (writes_then h.1 k.1))

-- a refusal's line
abbrev line_in : ℕ → Option Refusal → ℕ
line_in k None = k
line_in k (Some r) = r.line

refused-line : {A : Type 0} (k : ℕ) (x : Result A) → line_in k (refused_by k x None) ≡ k
refused-line k (ok a) = refl
refused-line k failed = refl
refused-line k (refuse r) = refl

module _ (ns : Names) (s : Bytes) where
  -- a refusal stands whatever comes behind
  refused-later : (i j : ℕ) {r : Refusal} → vars_refused ns (laid_vars_to s i) ≡ Some r → vars_refused ns (laid_vars_to s (i + j)) ≡ Some r
  unfolding laid_vars_to
  refused-later i zero h = let z : i + 0 ≡ i = omega arith in rw z h
  refused-later i (suc j) h = let z : i + suc j ≡ suc (i + j) = omega arith in rw z (refused-append ns (laid_vars_to s (i + j)) (laid_at s (i + j)) ∙ rw (refused-later i j h))

  -- line i is refused as line i + 1, from 1
  laid-line : (i : ℕ) → line_in (suc i) (vars_refused ns (laid_at s i)) ≡ suc i
  laid-line i = go (eqb (letter (read_at s i).form.kind) 72) (own_in (sheet_source s).implement (open_at (nodes_in s) i))
    where
      go : (x y : Bool) → line_in (suc i) (vars_refused ns (cond x (cond y (located_at s i ∷ []) []) [])) ≡ suc i
      go false y = refl
      go true false = refl
      go true true = refused-line (suc i) (var_value ns (located_at s i).it)

  module _ (c : Checked s) {v w : Writer} where
    all-pended : Pended ns (laid_vars_to s (lines_in s)) v (Ok tt) w → AllPended ns s v (Ok tt) w
    all-pended h = (rw (laid-lines s c) h.0, writes_as (ap (concat_map pend_row) (sym (pends-by ns (sheet_source s) ∙ ap (pends_of ns) (laid-lines s c)))) h.1)

    -- line i is the first that is refused
    pended-before : {i : ℕ} (r : Refused) → i < lines_in s → Pended ns (laid_vars_to s i) v (Ok tt) w → {z : Writer} → Pended ns (laid_at s i) w (Err r) z → AllPended ns s v (Err r) z
    unfolding laid_vars_to
    pended-before {i} r h a b =
        let z : suc i + (lines_in s - suc i) ≡ lines_in s = omega arith in
        let k : refusal_line r ≡ suc i = sym (ap (line_in (suc i)) b.0) ∙ laid-line i in
        let y : i ≡ refusal_line r - 1 = omega arith in
        let g : vars_refused ns (laid_vars_to s i ++ laid_at s i) ≡ Some (refusal_of r) = refused-append ns (laid_vars_to s i) (laid_at s i) ∙ rw (a.0, b.0) in (
          rw (laid-lines s c) (rw z at (refused-later (suc i) (lines_in s - suc i) g)),
          rw b.1 (writes_as (ap (λ (j : ℕ). concat_map pend_row (pends_of ns (laid_vars_to s j))) y) a.1),
        )

-- ---- no line

pub none-laid : (ns : Names) (s : Bytes) {r : Option ℕ} → r ≡ None → {v w : Writer} → Writes v [] w → Pended ns (laid_on s r) v (Ok tt) w
none-laid ns s z w = rw z (refl, w)

-- ---- all lines

abbrev is_written : {A E : Type 0} → Std.Result A E → Bool
is_written (Ok x) = true
is_written (Err r) = false

pub not_written : {A E : Type 0} {y : Std.Result A E} {r : E} → y ≡ Err r → is_written y ≡ false
not_written e = ap is_written e

-- the rows of the first i lines are written, and none is refused
pub record LinesPended (s t : Bytes) (m : ℕ) (v : Writer) (u : Bytes) (k : Option ℕ) (i : ℕ) (w : Writer) : Type 0 where
  pub here : Open s i k
  pub keeps : Keeps 16384 49152 t u
  pub rows : Pended (names_in s t m) (laid_vars_to s i) v (Ok tt) w

module _ {s t : Bytes} {m : ℕ} (r : ConstTable s t m) where
  pub walk_start : (w : Writer) → w.at ≤ length w.out.now + 1 → LinesPended s t m w t None 0 w
  unfolding laid_vars_to open_at module_at
  walk_start w h = record { here = record { checked = r.checked; within = omega arith; low = omega arith; here = refl }; keeps = keeps-all; rows = (refl, writes_none w h) }

  module _ {v : Writer} {u : Bytes} {k : Option ℕ} {i : ℕ} {w : Writer} (l : LinesPended s t m v u k i w) where
    pub walk-log : ConstsLogged s u m
    walk-log = logged-kept l.keeps r.logged

    pub walk_end : lines_in s ≤ i → AllPended (names_in s t m) s v (Ok tt) w × Keeps 16384 49152 t u
    walk_end h =
        let z : i ≡ lines_in s = omega (arith, l.here.within) in
        (all-pended (names_in s t m) s r.checked (subst (λ (j : ℕ). Pended (names_in s t m) (laid_vars_to s j) v (Ok tt) w) z l.rows), l.keeps)

    -- the next line is worked on
    module _ (q : Option ℕ) (g : laid_on s q ≡ laid_at s i) where
      line-pended : (y : Std.Result Unit Refused) (z : Writer) → Pended (names_in s u m) (laid_on s q) w y z → Pended (names_in s t m) (laid_at s i) w y z
      line-pended y z b = subst (λ (xs : List (Located VarDecl)). Pended (names_in s t m) xs w y z) g (rw (log-kept l.keeps r.logged) at b)

      pub walk-next : {x : Bytes} {z : Writer} {k' : Option ℕ} → Pended (names_in s u m) (laid_on s q) w (Ok tt) z × Keeps 16384 49152 u x → Open s (i + 1) k' → LinesPended s t m v x k' (i + 1) z
      unfolding laid_vars_to
      walk-next b o = record {
        here = o;
        keeps = keeps_then l.keeps b.1;
        rows = rw add-one (pended-then (names_in s t m) (laid_vars_to s i) (laid_at s i) l.rows (line-pended (Ok tt) _ b.0));
      }

      pub walk-stop : (y : Refused) {x : Bytes} {z : Writer} → Pended (names_in s u m) (laid_on s q) w (Err y) z × Keeps 16384 49152 u x → i < lines_in s → AllPended (names_in s t m) s v (Err y) z × Keeps 16384 49152 t x
      walk-stop y b h = (pended-before (names_in s t m) s r.checked y h l.rows (line-pended (Err y) _ b.0), keeps_then l.keeps b.1)
