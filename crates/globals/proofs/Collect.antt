-- Laws of the walk over the lines.
use mathlib.Core.Path.{◌≡◌, refl, sym, ap, ◌∙◌}
use mathlib.Core.List.{List, [], ◌∷◌, ◌++◌}
use Rattle.std.specs.Prelude.{Option, None, Some}
use Prim.Native.Nat.{ℕ, zero, suc, ◌+◌, ◌-◌, ◌≤◌, ◌<◌}
use native.Mathlib.Numerals.{add-one}
use native.Mathlib.Omega.{arith}
use lib.ListN.{length}
use Rattle.semantics.specs.Text.{Bytes}
use Rattle.semantics.specs.Tree.{VarDecl, Declares}
use Rattle.semantics.specs.Form.{letter}
use Rattle.semantics.specs.Sheet.{Located, declared, sheet_source}
use Rattle.semantics.specs.Refusal.{sum_of}
use Rattle.semantics.specs.Fold.{Names}
use Rattle.semantics.specs.Global.{globals}
use Rattle.lines.specs.Lines.{lines_in, read_at, nodes_in}
use Rattle.refs.proofs.Nodes.{node-count}
use Rattle.checks.specs.Checks.{Checked, Kept, Outside}
use Rattle.source.specs.Walk.{declares_at, open_at, declared_to, located_to, by_kind}
use Rattle.source.proofs.Walk.{declared-all}
use Rattle.source.proofs.Declares.{line-declares}
use Rattle.implement.specs.Modules.{module_at, Open}
use Rattle.globals.specs.declared.Globals.{Globals}
use Rattle.globals.specs.Allocation.{Allocation, allocation_of, lay_names, lay_vars, laid_to}
use Rattle.global_table.specs.Table.{VarLine, type_on, names_on, entries_from}
use Rattle.globals.specs.Collect.{allocation_in, PlacesEntered, PlacesLaid, names_at, names_to, lay_lines, lay_line, GlobalsCollected}
use Rattle.globals.specs.Vars.{laid_at, laid_on}
use Rattle.globals.proofs.Allocation.{laid-all, laid_next}
use Rattle.global_table.proofs.Table.{places_count, places-kept, tabled-none, tabled-kept}
use Rattle.globals.proofs.Declare.{laid_same, laid_then}
use Rattle.globals.proofs.Laid.{laid-number}

-- ---- one line

module _ (s t : Bytes) (i : ℕ) (g : Globals) (st : PlacesEntered s t g) where
  pub line-none : [] ≡ laid_at s i → PlacesLaid s t t (lay_line s i (allocation_in s t g)) g (g.count + names_at s i)
  unfolding lay_line lay_lines
  line-none e = laid_same st (ap (λ (vs : List (Located VarDecl)). lay_lines vs (allocation_in s t g)) e) (omega arith)

  module _ (c : Checked s) (h : i < lines_in s) (r : ℕ) (e : laid_on s (Some r) ≡ laid_at s i) (l : VarLine s r) where
    names-are : names_at s i ≡ length (names_on s r)
    unfolding names_at by_kind
    names-are =
        let z : r - 1 ≡ i = laid-number s i r e in
        let v : letter (read_at s i).form.kind ≡ 72 = rw z at l.kind in
        ap (λ (d : Declares). sum_of (λ (v : VarDecl). length v.names) d.vars) (line-declares s c i h) ∙ rw (v, z) (omega arith)

    pub line-room : g.count + names_at s i ≤ 256 → g.count + length (names_on s r) ≤ 256
    line-room q = omega (arith, names-are)

    pub line-laid : {u : Bytes} {x : Globals} → PlacesLaid s t u (lay_names (type_on s r) (names_on s r) (allocation_in s t g)) x (g.count + length (names_on s r)) → PlacesLaid s t u (lay_line s i (allocation_in s t g)) x (g.count + names_at s i)
    unfolding lay_line lay_lines
    line-laid a = record {
      standing = a.standing;
      outside = a.outside;
      allocation = a.allocation ∙ ap (λ (vs : List (Located VarDecl)). lay_lines vs (allocation_in s t g)) e;
      most = omega (arith, a.most, names-are);
    }

-- ---- names of the first lines

sum-append : (f : VarDecl → ℕ) (xs ys : List VarDecl) → sum_of f (xs ++ ys) ≡ sum_of f xs + sum_of f ys
sum-append f [] ys = omega arith
sum-append f (x ∷ xs) ys = let e = sum-append f xs ys in omega arith

names_more : (s : Bytes) (i : ℕ) → names_to s (suc i) ≡ names_to s i + names_at s i
unfolding names_to names_at declared_to
names_more s i = sum-append (λ (v : VarDecl). length v.names) (declared_to (λ (d : Declares). d.vars) (nodes_in s) i) (declares_at (nodes_in s) i).vars

names-up : (s : Bytes) (i d : ℕ) → names_to s i ≤ names_to s (i + d)
names-up s i zero = let e : i + 0 ≡ i = omega arith in rw e (omega arith)
names-up s i (suc d) = let e : i + suc d ≡ suc (i + d) = omega arith in rw e (omega (arith, names-up s i d, names_more s (i + d)))

module _ (s : Bytes) (c : Checked s) where
  names-all : names_to s (lines_in s) ≤ 256
  unfolding names_to
  names-all =
      let e : declared (λ (d : Declares). d.vars) (nodes_in s) ≡ declared_to (λ (d : Declares). d.vars) (nodes_in s) (lines_in s) = declared-all (λ (d : Declares). d.vars) (nodes_in s) ∙ ap (declared_to (λ (d : Declares). d.vars) (nodes_in s)) (node-count s c.whole) in
      rw e at c.bounds.names

  names-few : (i : ℕ) → i < lines_in s → names_to s i + names_at s i ≤ 256
  names-few i h = let e : suc i + (lines_in s - suc i) ≡ lines_in s = omega arith in omega (arith, names_more s i, rw e at (names-up s (suc i) (lines_in s - suc i)), names-all)

-- ---- all lines

-- the globals of the first i lines have places
pub record LinesLaid (s t u : Bytes) (g : Globals) (k : Option ℕ) (i : ℕ) : Type 0 where
  pub laid : PlacesLaid s t u (laid_to s i) g (names_to s i)
  pub here : Open s i k

module _ (s t : Bytes) (c : Checked s) where
  pub lines-laid-start : {g : Globals} → g.count ≡ 0 → g.end ≡ 0 → LinesLaid s t t g None 0
  unfolding laid_to located_to lay_vars entries_from open_at module_at
  lines-laid-start {g} e f =
      record {
        laid = laid_same (record { tabled = tabled-none c e; low = omega arith }) (rw (e, f)) (omega arith);
        here = record { checked = c; within = omega arith; low = omega arith; here = refl };
      }

  module _ (u : Bytes) (g : Globals) (k : Option ℕ) (i : ℕ) (m : LinesLaid s t u g k i) where
    pub lines-laid-here : i < lines_in s → (PlacesEntered s u g) × (Open s i k) × (i < lines_in s) × (g.count + names_at s i ≤ 256)
    lines-laid-here h = (m.laid.standing, m.here, h, omega (arith, m.laid.most, names-few s c i h))

    pub lines-laid-next : {v : Bytes} {x : Globals} {q : Option ℕ} → i < lines_in s → PlacesLaid s u v (lay_line s i (allocation_in s u g)) x (g.count + names_at s i) → Open s (i + 1) q → LinesLaid s t v x q (i + 1)
    lines-laid-next h a o =
        let b = laid_then (lay_line s i) (names_at s i) m.laid a in
        record { laid = record { standing = b.standing; outside = b.outside; allocation = b.allocation ∙ sym (laid_next s c i h); most = omega (arith, b.most, names_more s i, ap (names_to s) (add-one i)) }; here = o }

    pub lines-laid-end : lines_in s ≤ i → (GlobalsCollected s u g) × (Outside 7168 9216 t u)
    lines-laid-end h =
        let z : i ≡ lines_in s = omega (arith, m.here.within) in
        let e : (ns : Names) → allocation_in s u g ≡ allocation_of (globals ns (sheet_source s)) = λ ns. m.laid.allocation ∙ ap (laid_to s) z ∙ sym (laid-all s c ns) in (
          record {
            tabled = m.laid.standing.tabled;
            places = λ ns. ap (λ (l : Allocation). l.places) (e ns);
            end = λ ns. ap (λ (l : Allocation). l.end) (e ns);
            count = λ ns. sym (places_count s u 0 g.count) ∙ ap (λ (l : Allocation). length l.places) (e ns);
            low = m.laid.standing.low;
          },
          m.laid.outside,
        )

-- they stay collected where all that stands up to the table's end is kept
pub collected-kept : {s t u : Bytes} {g : Globals} → Kept 9216 t u → GlobalsCollected s t g → GlobalsCollected s u g
collected-kept {s} {t} {u} {g} a c = record {
  tabled = tabled-kept a c.tabled;
  places = λ ns. places-kept a s g.count c.tabled.few ∙ c.places ns;
  end = c.end;
  count = c.count;
  low = c.low;
}
