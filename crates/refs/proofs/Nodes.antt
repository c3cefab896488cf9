-- What a line makes: the node of line i is made of its fields, where each reference is resolved among all nodes of the sheet.
use mathlib.Core.Path.{◌≡◌, refl, sym, ap, ◌∙◌}
use mathlib.Core.Bool.{Bool, true, false, cond, ◌&&◌}
use mathlib.Core.List.{List, [], ◌∷◌, ◌++◌}
use Rattle.std.specs.Prelude.{Some}
use Prim.Native.Nat.{ℕ, zero, suc, ◌+◌, ◌-◌, ◌≤◌, ◌<◌}
use native.Mathlib.Omega.{arith}
use lib.Dec.{ltb, eqb}
use lib.ListN.{length, take, drop, get_or, length-append}
use lib.Seq.{get_or-take, get_or-append_seam, take_all, take_at, take-take}
use borrow.Author.Tests.{ne_eqb, ltb-true}
use Rattle.semantics.specs.Tree.{Node, no_node}
use Rattle.semantics.specs.Form as Form
use Rattle.semantics.specs.Form.{Read, node_of, node_at, perhaps_at, value, values, make, Makes, holds, is_count, fits, ones}
use Rattle.semantics.specs.Form.Atom.{name, key, ref, maybe, unary_op, binary_op, line_or_col, size, i64, offset, real, text}
use Rattle.semantics.specs.Form.Part.{one, many}
use Rattle.semantics.specs.Sheet.{nodes_from}
use Rattle.semantics.specs.Refusal.{Ref, no_read, ref_of, refs_in, bad_ref_from}
use Rattle.form.specs.Table.{row_node}
use Rattle.semantics.proofs.Common.{never, both}
use Rattle.lines.specs.Lines.{lines_in, reads_in, read_at, nodes_in, form_at, Whole}
use Rattle.lines.proofs.Line.{line-count, form-is, read_fits}
use Rattle.refs.specs.Refs.{fine_ref, fine_refs}
use Rattle.refs.proofs.Fine.{needed-ref, refs-fine}

-- ---- the nodes in order

nodes-prefix : (rs : List Read) (ns : List Node) → take (length ns) (nodes_from ns rs) ≡ ns
unfolding nodes_from
nodes-prefix [] ns = take_all (length ns) ns (omega arith)
nodes-prefix (r ∷ rs) ns =
    let ms = ns ++ (node_of ns r ∷ []) in
    sym (take-take (length ns) (length ms) (nodes_from ms rs) (omega (arith, length-append ns (node_of ns r ∷ []))))
    ∙ ap (take (length ns)) (nodes-prefix rs ms) ∙ take_at ns (node_of ns r ∷ []) (length ns) refl

nodes-length : (rs : List Read) (ns : List Node) → length (nodes_from ns rs) ≡ length ns + length rs
unfolding nodes_from
nodes-length [] ns = omega arith
nodes-length (r ∷ rs) ns = nodes-length rs (ns ++ (node_of ns r ∷ [])) ∙ omega (arith, length-append ns (node_of ns r ∷ []))

node-step : (rs : List Read) (ns : List Node) (i : ℕ) → i < length rs → get_or (nodes_from ns rs) (length ns + i) no_node ≡ node_of (take (length ns + i) (nodes_from ns rs)) (get_or rs i no_read)
unfolding nodes_from
node-step [] ns i h = absurd (omega arith)
node-step (r ∷ rs) ns zero h =
    let ms = ns ++ (node_of ns r ∷ []) in
    let z : length ns + 0 ≡ length ns = omega arith in
    rw z
    (sym (get_or-take (length ms) (nodes_from ms rs) (length ns) no_node (omega (arith, length-append ns (node_of ns r ∷ []))))
    ∙ ap (λ (l : List Node). get_or l (length ns) no_node) (nodes-prefix rs ms) ∙ get_or-append_seam ns (node_of ns r) [] no_node
    ∙ sym (ap (λ (l : List Node). node_of l r) (nodes-prefix (r ∷ rs) ns)))
node-step (r ∷ rs) ns (suc i) h =
    let z : length ns + suc i ≡ length (ns ++ (node_of ns r ∷ [])) + i = omega (arith, length-append ns (node_of ns r ∷ [])) in
    rw z (node-step rs (ns ++ (node_of ns r ∷ [])) i (omega arith))

-- ---- a reference to an earlier line reads the same among the nodes before and among all

same-node : (ns : List Node) (i r : ℕ) → (r ≡ 0 → ⊥) → r ≤ i → node_at (take i ns) r ≡ node_at ns r
same-node ns i r z h = get_or-take i ns (r - 1) no_node (omega (arith, z))

module _ (ls : List Read) (ns : List Node) (i : ℕ) where
  perhaps-same : (m : ℕ) (q : Bool) → cond (eqb m 0) true (ltb m (i + 1) && q) ≡ true → perhaps_at (take i ns) m ≡ perhaps_at ns m
  perhaps-same zero q h = refl
  perhaps-same (suc m) q h =
      let k : suc m < i + 1 = ltb-true (suc m) (i + 1) (both (ltb (suc m) (i + 1)) q (rw (ne_eqb (suc m) 0 (λ z. omega arith)) at h)).0 in
      ap Some (same-node ns i (suc m) (λ z. omega arith) (omega arith))

  value_same : (a : Form.Atom) (f : List ℕ) (rs : List Ref) → fine_refs ls i (ref_of a f rs) ≡ true → (value a (take i ns) f ≡ value a ns f) × (fine_refs ls i rs ≡ true)
  unfolding fine_refs
  value_same name f rs h = (refl, h)
  value_same key f rs h = (refl, h)
  value_same (ref k) f rs h =
      let w = both (fine_ref ls (i + 1) (record { kind = Form.letter k; optional = false; line = Form.number_of f })) (fine_refs ls i rs) h in
      let e = needed-ref ls (i + 1) (Form.letter k) (Form.number_of f) w.0 in
      (same-node ns i (Form.number_of f) e.0 (omega (arith, e.1)), w.1)
  value_same (maybe k) f rs h =
      let w = both (fine_ref ls (i + 1) (record { kind = Form.letter k; optional = true; line = Form.number_of f })) (fine_refs ls i rs) h in
      (perhaps-same (Form.number_of f) _ w.0, w.1)
  value_same unary_op f rs h = (refl, h)
  value_same binary_op f rs h = (refl, h)
  value_same line_or_col f rs h = (refl, h)
  value_same size f rs h = (refl, h)
  value_same i64 f rs h = (refl, h)
  value_same offset f rs h = (refl, h)
  value_same real f rs h = (refl, h)
  value_same text f rs h = (refl, h)

  values_same : (n : ℕ) (a : Form.Atom) (fs : List (List ℕ)) (ps : List Form.Part) → fine_refs ls i (refs_in (ones n a ++ ps) fs) ≡ true → fits (ones n a ++ ps) fs ≡ true
      → (values a (take i ns) n fs ≡ values a ns n fs) × (fine_refs ls i (refs_in ps (drop n fs)) ≡ true) × (fits ps (drop n fs) ≡ true)
  values_same zero a fs ps h k = (refl, h, k)
  values_same (suc n) a [] ps h k = never k
  values_same (suc n) a (f ∷ fs) ps h k =
      let v = value_same a f (refs_in (ones n a ++ ps) fs) h in
      let w = values_same n a fs ps v.1 (both (holds a f) (fits (ones n a ++ ps) fs) k).1 in
      (rw (v.0, w.0), w.1, w.2)

  make_same : (ps : List Form.Part) (m : Makes ps) (fs : List (List ℕ)) → fine_refs ls i (refs_in ps fs) ≡ true → fits ps fs ≡ true → make ps m (take i ns) fs ≡ make ps m ns fs
  make_same [] m fs h k = refl
  make_same (one a ∷ ps) m [] h k = never k
  make_same (one a ∷ ps) m (f ∷ fs) h k =
      let v = value_same a f (refs_in ps fs) h in
      ap (λ (x : Form.Value a). make ps (m x) (take i ns) fs) v.0 ∙ make_same ps (m (value a ns f)) fs v.1 (both (holds a f) (fits ps fs) k).1
  make_same (many a ∷ ps) m [] h k = never k
  make_same (many a ∷ ps) m (f ∷ fs) h k =
      let n = Form.number_of f in
      let v = values_same n a fs ps h (both (is_count f) (fits (ones n a ++ ps) fs) k).1 in
      ap (λ (x : List (Form.Value a)). make ps (m x) (take i ns) (drop n fs)) v.0 ∙ make_same ps (m (values a ns n fs)) (drop n fs) v.1 v.2

-- ---- the node of a line is what its form makes of its fields, with references among all nodes

pub node-count : (s : List ℕ) → Whole s → length (nodes_in s) ≡ lines_in s
node-count s w = nodes-length (reads_in s) [] ∙ omega (arith, line-count s)

module _ (s : List ℕ) (w : Whole s) (good : bad_ref_from (reads_in s) 1 [] (reads_in s) ≡ 0) (i : ℕ) (h : i < lines_in s) where
  pub node-of : get_or (nodes_in s) i no_node ≡ node_of (take i (nodes_in s)) (read_at s i)
  node-of = let z : 0 + i ≡ i = omega arith in rw z at (node-step (reads_in s) [] i (omega (arith, line-count s)))

  pub node-at : get_or (nodes_in s) i no_node ≡ row_node (nodes_in s) (form_at s i) (read_at s i).fields
  unfolding node_of
  node-at =
      node-of
      ∙ make_same (reads_in s) (nodes_in s) i (read_at s i).form.parts (read_at s i).form.make (read_at s i).fields (refs-fine s w good i h) (rw (form-is s w i h) (read_fits s w i h))
      ∙ ap (λ (r : Form.Row). make r.parts r.make (nodes_in s) (read_at s i).fields) (form-is s w i h)
