-- Laws of the checks together.
use mathlib.Core.Path.{◌≡◌, refl, ap, ◌∙◌}
use mathlib.Core.Bool.{false}
use mathlib.Core.List.{List, [], ◌∷◌, ◌++◌, map}
use Rattle.std.specs.Prelude.{Option, None, Result, Ok, Err}
use Prim.Native.Nat.{ℕ, suc, ◌+◌, ◌≤◌}
use native.Mathlib.Omega.{arith}
use borrow.Author.Tests.{le-ltb}
use lib.Seq.{take-append_seam}
use lib.ListN.{length, get_or, length-append, length-map}
use Rattle.semantics.specs.Text.{line_parts}
use Rattle.semantics.specs.Refusal.{Outcome, zeros, no_counts, bad_form, bad_ref_from, too_deep_from, bad_module_from, too_many_from, ruled, checked, tested, worked, compiled}
use Rattle.semantics.specs.Tree.{Declares, Node}
use Rattle.semantics.specs.Sheet.{Module, Located, open_after, located_from, declared, sheet_source}
use Rattle.semantics.proofs.Common.{zeros-at}
use Rattle.lines.specs.Lines.{reads_in, nodes_in, Whole}
use Rattle.answers.specs.declared.Refusal.{Refusal}
use Rattle.refs.specs.Refs.{used_at, Used}
use Rattle.refs.proofs.Fine.{refs-fine}
use Rattle.refs.proofs.Once.{used-once}
use Rattle.nesting.proofs.Depths.{depth_low, refs-lower}
use Rattle.counts.proofs.Bounds.{within-bounds}
use Rattle.checks.specs.Checks.{settled, Checked, Passes, PassesChecks}

-- ---- zeros

-- no line is used where the table is zero
pub unused : (n : ℕ) (t : List ℕ) → t ≡ zeros n → Used t []
unfolding used_at
unused n t z i h = ap (λ (l : List ℕ). get_or l (3072 + i) 0) z ∙ zeros-at n (3072 + i)

-- ---- refusals 4 to 7, where there is none, and 3 before them

module _ (s : List ℕ) (refs : bad_ref_from (reads_in s) 1 [] (reads_in s) ≡ 0) (nests : too_deep_from 1 [] (reads_in s) ≡ 0)
    (modules : bad_module_from 1 false (reads_in s) ≡ 0) (counts : too_many_from 1 no_counts (nodes_in s) ≡ 0) where
  pub ruled-well : (o : Outcome) → ruled (reads_in s) o ≡ o
  ruled-well o = rw (refs, nests, modules, counts)

  pub checked-well : bad_form 1 (line_parts s) ≡ 0 → (o : Outcome) → checked (line_parts s) o ≡ o
  checked-well formed o = rw formed (ruled-well o)

  pub all-checked : Whole s → Checked s
  all-checked w = record {
    whole = w;
    good = refs;
    fine = λ i h. refs-fine s w refs i h;
    once = λ r h. used-once (reads_in s) r h refs;
    low = λ i h. depth_low s w i h nests;
    falls = λ i h. refs-lower s w i h refs;
    modules = modules;
    bounds = within-bounds (nodes_in s) counts;
  }

-- ---- refusals 1 and 2

module _ (s : List ℕ) (w : ℕ) (room : 65536 ≤ w) where
  pub tested-in : (o : Outcome) → length s ≤ 65535 → tested w s o ≡ checked (line_parts s) o
  tested-in o h = rw (le-ltb 65535 (length s) h, le-ltb w 65536 room)

  pub table-first : (t v : List ℕ) (r : Result ℕ Refusal) → Passes s t r → PassesChecks s w (t ++ v) r
  table-first t v (Ok n) p = (rw (← p.0.long) (rw (take-append_seam t v) p), room)
  table-first t v (Err r) p = tt

-- what compiling gives, by the answer
pub compiled_by : (s : List ℕ) (work : ℕ) (r : Result ℕ Refusal) → ((o : Outcome) → tested work s o ≡ settled r o) → (listing : ℕ) → compiled listing work s ≡ settled r (worked listing (sheet_source s))
unfolding compiled
compiled_by s work r h listing = h (worked listing (sheet_source s))

-- ---- what a sheet that passes declares

located-length : {A : Type 0} (f : Declares → List A) (k : ℕ) (o : Option Module) (ns : List Node) → length (located_from f k o ns) ≡ length (declared f ns)
located-length f k o [] = refl
located-length {A} f k o (n ∷ ns) =
    let at : A → Located A = λ a. record { line = k; within = o; it = a } in
    let rest = open_after k n.declares o in
    omega (arith, length-append (map at (f n.declares)) (located_from f (suc k) rest ns), length-map (f n.declares) at, located-length f (suc k) rest ns, length-append (f n.declares) (declared f ns))

pub few-consts : {s : List ℕ} → Checked s → length (sheet_source s).consts ≤ 128
unfolding sheet_source
few-consts {s} c = omega (arith, located-length (λ (d : Declares). d.consts) 1 None (nodes_in s), c.bounds.consts)
