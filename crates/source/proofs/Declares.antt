-- What a line declares, by its kind.
use mathlib.Core.Path.{◌≡◌, refl, ap, ◌∙◌}
use mathlib.Core.List.{List, [], ◌∷◌}
use Prim.Native.Nat.{ℕ, ◌<◌}
use native.Mathlib.Omega.{arith}
use Rattle.semantics.specs.Tree.{Node}
use Rattle.semantics.specs.Form.{Row, letter, forms, make}
use Rattle.form.specs.Table.{row_at}
use Rattle.form.proofs.Table.{row-count, Each, done, ◌also◌, each_at}
use Rattle.lines.specs.Lines.{lines_in, read_at, nodes_in, form_at}
use Rattle.lines.proofs.Line.{form-low, kind-is}
use Rattle.refs.proofs.Nodes.{node-at}
use Rattle.checks.specs.Checks.{Checked}
use Rattle.source.specs.Walk.{declares_at, by_kind}

abbrev DeclaresAs : Row → Type 0
DeclaresAs r = (ns : List Node) (fs : List (List ℕ)) → (make r.parts r.make ns fs).declares ≡ by_kind (letter r.kind) ns fs (make r.parts r.make ns fs).declares

con : DeclaresAs (row_at 28)
unfolding forms by_kind
con ns [] = refl
con ns (a ∷ []) = refl
con ns (a ∷ (b ∷ [])) = refl
con ns (a ∷ (b ∷ (c ∷ []))) = refl
con ns (a ∷ (b ∷ (c ∷ (d ∷ fs)))) = refl

var : DeclaresAs (row_at 29)
unfolding forms by_kind
var ns [] = refl
var ns (a ∷ []) = refl
var ns (a ∷ (b ∷ [])) = refl
var ns (a ∷ (b ∷ (c ∷ fs))) = refl

module-line : DeclaresAs (row_at 30)
unfolding forms by_kind
module-line ns [] = refl
module-line ns (a ∷ fs) = refl

impl : DeclaresAs (row_at 32)
unfolding forms by_kind
impl ns [] = refl
impl ns (a ∷ fs) = refl

frame : DeclaresAs (row_at 33)
unfolding forms by_kind
frame ns [] = refl
frame ns (a ∷ []) = refl
frame ns (a ∷ (b ∷ fs)) = refl

all-declare : Each DeclaresAs forms
unfolding forms by_kind
all-declare =
    (λ ns fs. refl) also (λ ns fs. refl) also (λ ns fs. refl) also (λ ns fs. refl) also (λ ns fs. refl) also (λ ns fs. refl) also
    (λ ns fs. refl) also (λ ns fs. refl) also (λ ns fs. refl) also (λ ns fs. refl) also (λ ns fs. refl) also (λ ns fs. refl) also
    (λ ns fs. refl) also (λ ns fs. refl) also (λ ns fs. refl) also (λ ns fs. refl) also (λ ns fs. refl) also (λ ns fs. refl) also
    (λ ns fs. refl) also (λ ns fs. refl) also (λ ns fs. refl) also (λ ns fs. refl) also (λ ns fs. refl) also (λ ns fs. refl) also
    (λ ns fs. refl) also (λ ns fs. refl) also (λ ns fs. refl) also (λ ns fs. refl) also con also var also
    module-line also (λ ns fs. refl) also impl also frame also (λ ns fs. refl) also (λ ns fs. refl) also
    (λ ns fs. refl) also (λ ns fs. refl) also (λ ns fs. refl) also (λ ns fs. refl) also (λ ns fs. refl) also (λ ns fs. refl) also done

module _ (s : List ℕ) (c : Checked s) (i : ℕ) (h : i < lines_in s) where
  -- what line i declares, from 0
  pub line-declares : declares_at (nodes_in s) i ≡ by_kind (letter (read_at s i).form.kind) (nodes_in s) (read_at s i).fields (declares_at (nodes_in s) i)
  line-declares =
      let e = ap (λ (m : Node). m.declares) (node-at s c.whole c.good i h) in
      let g = each_at DeclaresAs forms all-declare (form_at s i) (omega (arith, row-count, form-low s c.whole i h)) (nodes_in s) (read_at s i).fields in
      e ∙ g ∙ rw (kind-is s c.whole i h, ← e)
