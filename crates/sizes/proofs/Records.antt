-- How large the records of a checked sheet are: 131,080 bytes at most.
use mathlib.Core.Path.{◌≡◌}
use mathlib.Core.List.{List, [], ◌∷◌, map}
use Rattle.std.specs.Prelude.{Option, None}
use Prim.Native.Nat.{ℕ, suc, ◌-◌, ◌≤◌, ◌<◌}
use native.Mathlib.Omega.{arith}
use Rattle.semantics.specs.Tree.{AdtDecl, Declares, Node, no_node}
use Rattle.semantics.specs.Form.{node_at}
use Rattle.semantics.specs.Sheet.{Module, Located, located_from, open_after, sheet_source}
use Rattle.semantics.specs.Refusal.{sum_of}
use Rattle.semantics.specs.Layout.{records_of, recorded_adts, record_log}
use Rattle.layout.specs.Lines.{decl_lines}
use Rattle.layout.proofs.Bounds.{SizeAtMost, FitsSheet, sheet-records-bound}
use Rattle.lines.specs.Lines.{lines_in, nodes_in}
use Rattle.refs.proofs.Nodes.{node-count}
use Rattle.checks.specs.Checks.{Checked}
use Rattle.sizes.proofs.Rows.{FewDecl}
use Rattle.sizes.proofs.Lines.{few-at, decl-lines}
use Rattle.laws.specs.Every.{Every}
use Rattle.laws.proofs.Every.{every_append, every_map, every_of, every-concat, every-under}

-- ---- lists

every-located : {A : Type 0} (P : A → Type 0) (f : Declares → List A) (k : ℕ) (o : Option Module) (ns : List Node) → Every (λ (m : Node). Every P (f m.declares)) ns
    → Every (λ (l : Located A). P l.it) (located_from f k o ns)
every-located P f k o [] u = tt
every-located {A} P f k o (m ∷ ns) u =
    let Q : Located A → Type 0 = λ l. P l.it in
    let at : A → Located A = λ a. record { line = k; within = o; it = a } in
    let p = open_after k m.declares o in
    every_append Q (map at (f m.declares)) (located_from f (suc k) p ns) (every-under Q at (f m.declares) u.0) (every-located P f (suc k) p ns u.1)

-- ---- what a line declares

small_all : (ds : List AdtDecl) → Every FewDecl ds → sum_of decl_lines ds ≤ 1024 → Every FitsSheet ds
small_all [] u l = tt
small_all (d ∷ ds) u l = ((u.0.0, u.0.1, omega arith), small_all ds u.1 (omega arith))

module _ (s : List ℕ) (c : Checked s) where
  module _ (r : ℕ) (first : 0 < r) (last : r ≤ lines_in s) where
    line_small : Every FitsSheet (node_at (nodes_in s) r).declares.adts
    line_small =
        small_all (node_at (nodes_in s) r).declares.adts (few-at s c r).2 (omega (arith, decl-lines s c r first last, c.whole.few))

  all_small : Every (λ (m : Node). Every FitsSheet m.declares.adts) (nodes_in s)
  all_small =
      every_of (λ (m : Node). Every FitsSheet m.declares.adts) no_node (nodes_in s)
      (λ i l. let z : suc i - 1 ≡ i = omega arith in rw z at (line_small (suc i) (omega arith) (omega (arith, node-count s c.whole))))

  -- all that a checked sheet declares
  checked-small : Every FitsSheet (recorded_adts (sheet_source s))
  unfolding sheet_source
  checked-small =
      every-under FitsSheet (λ (l : Located AdtDecl). l.it) (sheet_source s).adts
      (every-located FitsSheet (λ (d : Declares). d.adts) 1 None (nodes_in s) all_small)

  -- every record of a checked sheet
  pub checked-records-bound : Every (SizeAtMost 131080) (record_log (recorded_adts (sheet_source s)))
  checked-records-bound =
      let ds = recorded_adts (sheet_source s) in
      every-concat (SizeAtMost 131080) records_of ds (every_map FitsSheet (λ (d : AdtDecl). Every (SizeAtMost 131080) (records_of d)) sheet-records-bound ds checked-small)
