-- Every node of a checked sheet keeps to the limits: form by form, and then line by line.
use Prim.Native.Nat.{ℕ, ◌+◌, ◌<◌}
use native.Mathlib.Omega.{arith}
use mathlib.Core.Path.{◌≡◌}
use mathlib.Core.Bool.{Bool, true}
use mathlib.Core.List.{List, [], ◌∷◌, ◌++◌}
use Rattle.std.specs.Prelude.{Option, None, Some}
use lib.ListN.{length}
use Rattle.semantics.specs.Text.{Bytes}
use Rattle.semantics.specs.Tree.{Ty, Ex, El, Se, Fd, Case, AdtDecl, ConstDecl, VarDecl, Shape, TypeKey, Node, no_fd, no_case, tree, declaring, an_ex, an_el}
use Rattle.semantics.specs.Tree.Ex.{other_ex}
use Rattle.semantics.specs.Tree.El.{next}
use Rattle.semantics.specs.Form.Atom.{name}
use Rattle.semantics.specs.Form.{Read, Row, forms, node_of, fits, ex_of, els_of, fds_of, cases_of}
use Rattle.semantics.specs.Sheet.{nodes_from}
use Rattle.semantics.specs.Refusal.{no_read}
use Rattle.form.specs.Table.{row_at, keywords_at}
use Rattle.form.proofs.Table as Table
use Rattle.form.proofs.Table.{row-count, each_at, done, ◌also◌}
use Rattle.lines.specs.Lines.{lines_in, reads_in, read_at, nodes_in, form_at, text_at, Whole}
use Rattle.lines.proofs.Line.{line-count, line-short, form-low, form-is, fields-are, read_fits}
use Rattle.stored.proofs.Rows.{Plain}
use Rattle.stored.proofs.Names.{PlainFields, PlainPick, PlainAdt}
use Rattle.sound.proofs.Limits.{LimitedEx, LimitedEl, LimitedEls, LimitedInit, LimitedDecl, LimitedVar, LimitedNode}
use Rattle.sound.proofs.Fields.{Short, fields-short, LimitedPerhaps, LimitedField, KeepsLimits, make-limited}
use Rattle.laws.specs.Every.{Every}
use Rattle.laws.proofs.Every.{every_append, every_of}

-- ---- what a form makes, by what it declares

tree-node : {t : Ty} {e : Ex} {l : El} {s : Se} {f : Fd} {k : Case} → LimitedEx e → LimitedEl l → Plain f.names → Plain k.tags → PlainFields k.fields → LimitedNode (tree t e l s f k)
tree-node e l f t k = record { ex = e; el = l; fd = f; tags = t; fields = k; adts = tt; consts = tt; vars = tt; opens = tt }

ex-node : {e : Ex} → LimitedEx e → LimitedNode (an_ex e)
ex-node h = tree-node h tt tt tt tt

el-node : {l : El} → LimitedEl l → LimitedNode (an_el l)
el-node h = tree-node tt h tt tt tt

-- a type or a selector
no-ex : {t : Ty} {s : Se} → LimitedNode (tree t other_ex (next other_ex) s no_fd no_case)
no-ex = tree-node tt tt tt tt tt

decl-node : {ds : List AdtDecl} {cs : List ConstDecl} {vs : List VarDecl} {fs : List Shape} {ns : List TypeKey} {os : List Bytes} {c : Bool} {is : List Bytes}
    → Every PlainAdt ds → Every LimitedDecl cs → Every LimitedVar vs → Plain os → LimitedNode (declaring ds cs vs fs ns os c is)
decl-node a c v o = record { ex = tt; el = tt; fd = tt; tags = tt; fields = tt; adts = a; consts = c; vars = v; opens = o }

-- an `end`, `impl`, `frame` or `need` line
no-decl : {fs : List Shape} {ns : List TypeKey} {c : Bool} {is : List Bytes} → LimitedNode (declaring [] [] [] fs ns [] c is)
no-decl = decl-node tt tt tt tt

-- ---- lists of values

names-plain : (ns : List Bytes) → Every (LimitedField name) ns → Plain ns
names-plain [] h = tt
names-plain (n ∷ ns) h = (h.0, names-plain ns h.1)

fields-plain : (ms : List Node) → Every LimitedNode ms → PlainFields (fds_of ms)
fields-plain [] h = tt
fields-plain (m ∷ ms) h = (h.0.fd, fields-plain ms h.1)

cases-plain : (ms : List Node) → Every LimitedNode ms → PlainPick (Some (cases_of ms))
cases-plain [] h = tt
cases-plain (m ∷ ms) h = ((h.0.tags, h.0.fields), cases-plain ms h.1)

elements-limited : (ms : List Node) → Every LimitedNode ms → LimitedEls (els_of ms)
elements-limited [] h = tt
elements-limited (m ∷ ms) h = (h.0.el, elements-limited ms h.1)

init-limited : (o : Option Node) → LimitedPerhaps o → LimitedInit (ex_of o)
init-limited None h = tt
init-limited (Some m) h = h.ex

-- ---- the table of forms

abbrev RowKeeps : Row → Type 0
RowKeeps r = KeepsLimits r.parts r.make

all_keep : Table.Each RowKeeps forms
unfolding forms
all_keep =
    let array : RowKeeps (row_at 6) = λ t h. no-ex in
    let tuple : RowKeeps (row_at 7) = λ ts h. no-ex in
    let int : RowKeeps (row_at 8) = λ z h. ex-node h in
    let real : RowKeeps (row_at 9) = λ x h. ex-node h in
    let string : RowKeeps (row_at 10) = λ s h. ex-node h in
    let id : RowKeeps (row_at 11) = λ n h. ex-node tt in
    let qual : RowKeeps (row_at 12) = λ e g n h. ex-node tt in
    let un : RowKeeps (row_at 13) = λ o g e h. ex-node h.ex in
    let bin : RowKeeps (row_at 14) = λ o f l g r h. ex-node (g.ex, h.ex) in
    let cast : RowKeeps (row_at 15) = λ t g e h. ex-node h.ex in
    let len : RowKeeps (row_at 16) = λ e h. ex-node h.ex in
    let alloc : RowKeeps (row_at 17) = λ e g t h. ex-node tt in
    let lit : RowKeeps (row_at 18) = λ s f t g es h. ex-node (elements-limited es h) in
    let plain : RowKeeps (row_at 20) = λ e h. el-node h.ex in
    let star : RowKeeps (row_at 21) = λ e h. el-node h.ex in
    let at : RowKeeps (row_at 22) = λ e g ss h. el-node g.ex in
    let se : RowKeeps (row_at 23) = λ l f r h. no-ex in
    let fd : RowKeeps (row_at 24) = λ t g ns h. tree-node tt tt (names-plain ns h) tt tt in
    let pc : RowKeeps (row_at 25) = λ ts g fs h. tree-node tt tt tt (names-plain ts g) (fields-plain fs h) in
    let adt : RowKeeps (row_at 26) = λ n g fs h. decl-node ((g, fields-plain fs h, tt), tt) tt tt tt in
    let pick : RowKeeps (row_at 27) = λ n f fs g ks h. decl-node ((f, fields-plain fs g, cases-plain ks h), tt) tt tt tt in
    let con : RowKeeps (row_at 28) = λ n f l g c h e k. decl-node tt ((f, k.ex), tt) tt tt in
    let var : RowKeeps (row_at 29) = λ t f e g ns h. decl-node tt tt ((names-plain ns h, init-limited e g), tt) tt in
    let opening : RowKeeps (row_at 30) = λ n h. decl-node tt tt tt (h, tt) in
    let impl : RowKeeps (row_at 32) = λ n h. no-decl in
    let frame : RowKeeps (row_at 33) = λ s g os h. no-decl in
    let need : RowKeeps (row_at 34) = λ k h. no-decl in
    let block : RowKeeps (row_at 40) = λ s g os h. no-decl in
    no-ex also no-ex also no-ex also no-ex also no-ex also no-ex also array also tuple also
    int also real also string also id also qual also un also bin also cast also len also alloc also lit also ex-node tt also
    plain also star also at also se also fd also pc also adt also pick also con also var also opening also no-decl also impl also frame also
    need also no-decl also no-decl also no-decl also no-decl also no-decl also block also no-decl also done

-- ---- the lines of a sheet

abbrev LineKeeps : Read → Type 0
LineKeeps r = (ns : List Node) → Every LimitedNode ns → LimitedNode (node_of ns r)

nodes-keep : (rs : List Read) (ns : List Node) → Every LineKeeps rs → Every LimitedNode ns → Every LimitedNode (nodes_from ns rs)
unfolding nodes_from
nodes-keep [] ns k h = h
nodes-keep (r ∷ rs) ns k h = nodes-keep rs (ns ++ (node_of ns r ∷ [])) k.1 (every_append LimitedNode ns (node_of ns r ∷ []) h (k.0 ns h, tt))

module _ (s : Bytes) (w : Whole s) where
  module _ (i : ℕ) (h : i < lines_in s) where
    fits-row : fits (read_at s i).form.parts (read_at s i).fields ≡ true
    fits-row = rw (form-is s w i h) (read_fits s w i h)

    row_keeps : RowKeeps (read_at s i).form
    row_keeps = rw (form-is s w i h) (each_at RowKeeps forms all_keep (form_at s i) (omega (arith, row-count, form-low s w i h)))

    line-fields : Every (Short 255) (read_at s i).fields
    line-fields = rw (fields-are s w i h) (fields-short 255 (length (keywords_at (form_at s i)) + 1) (text_at s i) (line-short (i + 1) (text_at s i) (w.good i h)))

    line-keeps : LineKeeps (read_at s i)
    unfolding node_of
    line-keeps ns b = make-limited ns b (read_at s i).form.parts (read_at s i).form.make (read_at s i).fields fits-row line-fields row_keeps

  pub nodes-limited : Every LimitedNode (nodes_in s)
  nodes-limited = nodes-keep (reads_in s) [] (every_of LineKeeps no_read (reads_in s) (λ i l. line-keeps i (omega (arith, line-count s)))) tt
