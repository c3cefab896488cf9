-- How many lines a checked sheet spends on what its lines make: what line r makes takes at most r. A line takes one more than the lines that it
-- refers to, and each line is referred to at most once, so that no line is counted twice.
use mathlib.Core.Path.{◌≡◌, refl, ap}
use mathlib.Core.Bool.{Bool, true, false, cond, ◌&&◌}
use mathlib.Core.List.{List, [], ◌∷◌, ◌++◌}
use Prim.Native.Nat.{ℕ, zero, suc, ◌+◌, ◌-◌, ◌*◌, ◌≤◌, ◌<◌}
use native.Mathlib.Nat.{mul-add, mul-one, mul-le-mul_left, le_trans}
use native.Mathlib.Omega.{arith}
use lib.Dec.{ltb, eqb}
use lib.ListN.{length, drop, get_or}
use borrow.Author.Tests.{eqb-true, eqb-false, ltb-true}
use Rattle.semantics.specs.Tree.{Node, no_node}
use Rattle.semantics.specs.Form.{Read, Atom, Part, letter, forms, node_at, node_of, perhaps_at, value, values, number_of, fits, holds, is_count, ones}
use Rattle.semantics.specs.Form.Atom.{name, key, ref, maybe, unary_op, binary_op, line_or_col, size, i64, offset, real, text}
use Rattle.semantics.specs.Form.Part.{one, many}
use Rattle.semantics.specs.Sheet.{nodes_from}
use Rattle.semantics.specs.Refusal.{Ref, no_read, line_at, ref_of, refs_in, refs_of, sum_of}
use Rattle.semantics.proofs.Common.{never, both}
use Rattle.form.proofs.Table.{row-count, each_at}
use Rattle.layout.specs.Lines.{lines_of, decl_lines}
use Rattle.lines.specs.Lines.{lines_in, reads_in, read_at, nodes_in, form_at}
use Rattle.lines.proofs.Line.{line-count, form-low, form-is, read_fits}
use Rattle.refs.specs.Refs.{fine_ref, fine_refs, uses_of, uses_in}
use Rattle.refs.proofs.Fine.{needed-ref}
use Rattle.refs.proofs.Nodes.{node-at}
use Rattle.checks.specs.Checks.{Checked}
use Rattle.sizes.proofs.Rows.{node_lines, perhaps_lines, value_lines, parts_lines, FewOf, FewBefore, BoundedMake, all_sound}
use Rattle.laws.specs.Every.{Every}
use Rattle.laws.proofs.Every.{every_append, every_get, every_of}

-- ---- sums

sum_to : (ℕ → ℕ) → ℕ → ℕ
sum_to f zero = 0
sum_to f (suc k) = sum_to f k + f k

sum-le : (f g : ℕ → ℕ) (k : ℕ) → ((i : ℕ) → i < k → f i ≤ g i) → sum_to f k ≤ sum_to g k
unfolding sum_to
sum-le f g zero h = omega arith
sum-le f g (suc k) h = omega (arith, h k (omega arith), sum-le f g k (λ i l. h i (omega arith)))

sum-add : (e f g : ℕ → ℕ) (k : ℕ) → ((i : ℕ) → e i ≡ f i + g i) → sum_to e k ≡ sum_to f k + sum_to g k
unfolding sum_to
sum-add e f g zero h = refl
sum-add e f g (suc k) h = omega (arith, h k, sum-add e f g k h)

-- ---- the lines that fields refer to

-- what line r makes, none where r is 0
unfoldable lines_at : List Node → ℕ → ℕ
lines_at ns r = perhaps_lines (perhaps_at ns r)

lines_below : (ℕ → ℕ) → List Ref → ℕ
lines_below w [] = 0
lines_below w (r ∷ rs) = w r.line + lines_below w rs

module _ (ns : List Node) (ls : List Read) (i : ℕ) where
  line_of : (k m : ℕ) → fine_ref ls (i + 1) (record { kind = k; optional = false; line = m }) ≡ true → lines_at ns m ≡ node_lines (node_at ns m)
  unfolding lines_at
  line_of k zero h = absurd ((needed-ref ls (i + 1) k 0 h).0 refl)
  line_of k (suc m) h = refl

  value-lines : (a : Atom) (f : List ℕ) (rs : List Ref) → fine_refs ls i (ref_of a f rs) ≡ true
      → (lines_below (lines_at ns) (ref_of a f rs) ≡ value_lines a (value a ns f) + lines_below (lines_at ns) rs) × (fine_refs ls i rs ≡ true)
  unfolding fine_refs lines_below lines_at
  value-lines name f rs h = (omega arith, h)
  value-lines key f rs h = (omega arith, h)
  value-lines (ref k) f rs h =
      let w = both (fine_ref ls (i + 1) (record { kind = letter k; optional = false; line = number_of f })) (fine_refs ls i rs) h in
      (rw (line_of (letter k) (number_of f) w.0), w.1)
  value-lines (maybe k) f rs h = (refl, (both (fine_ref ls (i + 1) (record { kind = letter k; optional = true; line = number_of f })) (fine_refs ls i rs) h).1)
  value-lines unary_op f rs h = (omega arith, h)
  value-lines binary_op f rs h = (omega arith, h)
  value-lines line_or_col f rs h = (omega arith, h)
  value-lines size f rs h = (omega arith, h)
  value-lines i64 f rs h = (omega arith, h)
  value-lines offset f rs h = (omega arith, h)
  value-lines real f rs h = (omega arith, h)
  value-lines text f rs h = (omega arith, h)

  group_lines : (a : Atom) (n : ℕ) (ps : List Part) (fs : List (List ℕ)) → fits (ones n a ++ ps) fs ≡ true → fine_refs ls i (refs_in (ones n a ++ ps) fs) ≡ true
      → (lines_below (lines_at ns) (refs_in (ones n a ++ ps) fs) ≡ sum_of (value_lines a) (values a ns n fs) + lines_below (lines_at ns) (refs_in ps (drop n fs)))
      × (fits ps (drop n fs) ≡ true) × (fine_refs ls i (refs_in ps (drop n fs)) ≡ true)
  group_lines a zero ps fs h k = (omega arith, h, k)
  group_lines a (suc n) ps [] h k = never h
  group_lines a (suc n) ps (f ∷ fs) h k =
      let v = value-lines a f (refs_in (ones n a ++ ps) fs) k in
      let w = group_lines a n ps fs (both (holds a f) (fits (ones n a ++ ps) fs) h).1 v.1 in
      (omega (arith, v.0, w.0), w.1, w.2)

  parts-lines : (ps : List Part) (fs : List (List ℕ)) → fits ps fs ≡ true → fine_refs ls i (refs_in ps fs) ≡ true → lines_below (lines_at ns) (refs_in ps fs) ≡ parts_lines ps ns fs
  unfolding lines_below
  parts-lines [] [] h k = refl
  parts-lines [] (f ∷ fs) h k = never h
  parts-lines (one a ∷ ps) [] h k = never h
  parts-lines (one a ∷ ps) (f ∷ fs) h k =
      let v = value-lines a f (refs_in ps fs) k in omega (arith, v.0, parts-lines ps fs (both (holds a f) (fits ps fs) h).1 v.1)
  parts-lines (many a ∷ ps) [] h k = never h
  parts-lines (many a ∷ ps) (f ∷ fs) h k =
      let w = group_lines a (number_of f) ps fs (both (is_count f) (fits (ones (number_of f) a ++ ps) fs) h).1 k in
      omega (arith, w.0, parts-lines ps (drop (number_of f) fs) w.1 w.2)

-- ---- what lines take, summed over references and over the lines referred to

module _ (w : ℕ → ℕ) where
  -- a good reference is to an earlier line, or 0
  earlier : (ls : List Read) (i k : ℕ) (x : Ref) → i < k → fine_ref ls (i + 1) x ≡ true → x.line < k
  earlier ls i k x l = go (eqb x.line 0) refl
    where
      go : (b : Bool) → eqb x.line 0 ≡ b → cond b x.optional (ltb x.line (i + 1) && eqb (letter (line_at ls x.line).form.kind) x.kind) ≡ true → x.line < k
      go true q h = omega (arith, eqb-true x.line 0 q)
      go false q h = omega (arith, ltb-true x.line (i + 1) (both (ltb x.line (i + 1)) (eqb (letter (line_at ls x.line).form.kind) x.kind) h).0)

  flag_of : ℕ → ℕ → ℕ
  flag_of x r = cond (eqb r x) 1 0

  -- a line among those below k
  one_of : (x k : ℕ) → x < k → w x ≤ sum_to (λ r. w r * flag_of x r) k
  unfolding sum_to flag_of
  one_of x zero h = absurd (omega arith)
  one_of x (suc k) h = go (eqb k x) refl (λ l. one_of x k l)
    where
      go : (b : Bool) → eqb k x ≡ b → (x < k → w x ≤ sum_to (λ r. w r * flag_of x r) k) → w x ≤ sum_to (λ r. w r * flag_of x r) k + w k * cond (eqb k x) 1 0
      go true q ih = let e = eqb-true k x q in rw q (omega (arith, mul-one (w k), ap w e))
      go false q ih = let n = eqb-false k x q in omega (arith, ih (omega (arith, n)))

  -- lines that a line below k refers to
  refs-sum : (ls : List Read) (i k : ℕ) (rs : List Ref) → i < k → fine_refs ls i rs ≡ true → lines_below w rs ≤ sum_to (λ r. w r * uses_of r rs) k
  unfolding lines_below fine_refs flag_of
  refs-sum ls i k [] l h = omega arith
  refs-sum ls i k (x ∷ rs) l h =
      let q = both (fine_ref ls (i + 1) x) (fine_refs ls i rs) h in
      let e = sum-add (λ r. w r * uses_of r (x ∷ rs)) (λ r. w r * flag_of x.line r) (λ r. w r * uses_of r rs) k (λ r. mul-add (w r) (flag_of x.line r) (uses_of r rs)) in
      omega (arith, e, one_of x.line k (earlier ls i k x l q.0), refs-sum ls i k rs l q.1)

  -- and all lines below m
  module _ (ls : List Read) (fine : (i : ℕ) → i < length ls → fine_refs ls i (refs_of (get_or ls i no_read)) ≡ true) where
    uses_to : ℕ → ℕ → ℕ
    uses_to m r = sum_to (λ i. uses_of r (refs_of (get_or ls i no_read))) m

    all-sum : (m k : ℕ) → m ≤ k → m ≤ length ls → sum_to (λ i. lines_below w (refs_of (get_or ls i no_read))) m ≤ sum_to (λ r. w r * uses_to m r) k
    unfolding sum_to uses_to
    all-sum zero k l h = omega arith
    all-sum (suc m) k l h =
        let rs = refs_of (get_or ls m no_read) in
        let e = sum-add (λ r. w r * uses_to (suc m) r) (λ r. w r * uses_to m r) (λ r. w r * uses_of r rs) k (λ r. mul-add (w r) (uses_to m r) (uses_of r rs)) in
        omega (arith, e, all-sum m k (omega arith) (omega arith), refs-sum ls m k rs (omega arith) (fine m (omega arith)))

    uses-rest : (l : Read) (ms : List Read) (m r : ℕ) → sum_to (λ i. uses_of r (refs_of (get_or (l ∷ ms) i no_read))) (suc m) ≡ uses_of r (refs_of l) + sum_to (λ i. uses_of r (refs_of (get_or ms i no_read))) m
    unfolding sum_to
    uses-rest l ms zero r = omega arith
    uses-rest l ms (suc m) r = omega (arith, uses-rest l ms m r)

    uses-to : (ms : List Read) (m r : ℕ) → m ≤ length ms → sum_to (λ i. uses_of r (refs_of (get_or ms i no_read))) m ≤ uses_in r ms
    unfolding sum_to
    uses-to ms zero r h = omega arith
    uses-to [] (suc m) r h = absurd (omega arith)
    uses-to (l ∷ ms) (suc m) r h = omega (arith, uses-rest l ms m r, uses-to ms m r (omega arith))

    module _ (none : w 0 ≡ 0) (once : (r : ℕ) → 0 < r → uses_in r ls ≤ 1) where
      at_most : (r m : ℕ) → m ≤ length ls → w r * uses_to m r ≤ w r
      unfolding uses_to
      at_most zero m h = rw none (omega arith)
      at_most (suc r) m h = omega (arith, mul-one (w (suc r)), mul-le-mul_left (w (suc r)) (le_trans (uses-to ls m (suc r) h) (once (suc r) (omega arith))))

      module _ (grows : (i : ℕ) → i < length ls → w (suc i) ≤ 1 + lines_below w (refs_of (get_or ls i no_read))) where
        lines-sum : (k : ℕ) → k ≤ length ls → sum_to w (suc k) ≤ k + sum_to (λ i. lines_below w (refs_of (get_or ls i no_read))) k
        unfolding sum_to
        lines-sum zero h = omega (arith, none)
        lines-sum (suc k) h = omega (arith, grows k (omega arith), lines-sum k (omega arith))

        few-lines : (k : ℕ) → k ≤ length ls → w k ≤ k
        unfolding sum_to
        few-lines k h =
            omega (arith, lines-sum k h, all-sum k k (omega arith) h, sum-le (λ r. w r * uses_to k r) w k (λ r l. at_most r k h))

-- ---- on a checked sheet

abbrev KeepsFew : Read → Type 0
KeepsFew r = (ns : List Node) → FewBefore ns → FewOf (node_of ns r)

no_names : FewOf no_node
no_names = (omega arith, tt, tt)

few-from : (rs : List Read) (ns : List Node) → Every FewOf ns → Every KeepsFew rs → Every FewOf (nodes_from ns rs)
unfolding nodes_from
few-from [] ns h g = h
few-from (r ∷ rs) ns h g =
    few-from rs (ns ++ (node_of ns r ∷ [])) (every_append FewOf ns (node_of ns r ∷ []) h (g.0 ns (λ m. every_get FewOf no_node ns no_names h (m - 1)), tt)) g.1

module _ (s : List ℕ) (c : Checked s) where
  module _ (i : ℕ) (h : i < lines_in s) where
    row-sound : (ns : List Node) → BoundedMake ns (read_at s i).form
    row-sound ns = rw (form-is s c.whole i h) (each_at (BoundedMake ns) forms (all_sound ns) (form_at s i) (omega (arith, row-count, form-low s c.whole i h)))

    fields_fit : fits (read_at s i).form.parts (read_at s i).fields ≡ true
    fields_fit = rw (form-is s c.whole i h) (read_fits s c.whole i h)

    keeps-few : KeepsFew (read_at s i)
    unfolding node_of
    keeps-few ns g = (row-sound ns (read_at s i).fields fields_fit).1 g

    grows : lines_at (nodes_in s) (suc i) ≤ 1 + lines_below (lines_at (nodes_in s)) (refs_of (read_at s i))
    unfolding lines_at
    grows =
        let z : suc i - 1 ≡ i = omega arith in
        let e = parts-lines (nodes_in s) (reads_in s) i (read_at s i).form.parts (read_at s i).fields fields_fit (c.fine i h) in
        rw (z, node-at s c.whole c.good i h, ← form-is s c.whole i h) (omega (arith, e, (row-sound (nodes_in s) (read_at s i).fields fields_fit).0))

  in-sheet : {i : ℕ} → i < length (reads_in s) → i < lines_in s
  in-sheet l = omega (arith, line-count s)

  -- no line has or refers to more than 16 names of a field
  pub few-at : (r : ℕ) → FewOf (node_at (nodes_in s) r)
  few-at r = every_get FewOf no_node (nodes_in s) no_names (few-from (reads_in s) [] tt (every_of KeepsFew no_read (reads_in s) (λ i l. keeps-few i (in-sheet l)))) (r - 1)

  -- what line r makes takes at most r lines
  node-lines : (r : ℕ) → 0 < r → r ≤ lines_in s → node_lines (node_at (nodes_in s) r) ≤ r
  unfolding lines_at
  node-lines zero p h = absurd (omega arith)
  node-lines (suc r) p h =
      few-lines (lines_at (nodes_in s)) (reads_in s) (λ i l. c.fine i (in-sheet l)) refl c.once (λ i l. grows i (in-sheet l)) (suc r) (omega (arith, line-count s))

  -- its type, and what an `adt` or `pick` line declares
  pub type-lines : (r : ℕ) → 0 < r → r ≤ lines_in s → lines_of (node_at (nodes_in s) r).ty ≤ r
  type-lines r p h = omega (arith, node-lines r p h)

  pub decl-lines : (r : ℕ) → 0 < r → r ≤ lines_in s → sum_of decl_lines (node_at (nodes_in s) r).declares.adts ≤ r
  decl-lines r p h = omega (arith, node-lines r p h)
