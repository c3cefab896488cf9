-- The places of globals and their end are a walk over the names, whatever the first values are.
use mathlib.Core.Path.{◌≡◌, refl, ap, ◌∙◌}
use mathlib.Core.Bool.{Bool, true, false, not, cond}
use mathlib.Core.List.{List, [], ◌∷◌, ◌++◌, map}
use Rattle.std.specs.Prelude.{Option, None, Some}
use Prim.Native.Nat.{ℕ, zero, suc, ◌+◌, ◌<◌}
use native.Mathlib.Numerals.{add-one}
use lib.Dec.{eqb}
use lib.ListN.{get_or}
use Rattle.semantics.specs.Text.{Bytes, bytes, same, filter}
use Rattle.semantics.specs.Tree.{Ty, VarDecl, Declares, Node}
use Rattle.semantics.specs.Form.{letter, values}
use Rattle.semantics.specs.Form.Atom.{name}
use Rattle.semantics.specs.Sheet.{Located, Source, concat_map, sheet_source}
use Rattle.semantics.specs.Fold.{Names}
use Rattle.semantics.specs.Global.{Declared, Globals, init_of, or_no_init, laid_names, declared_by, declared_in, place_of, declare_at, globals_from, no_globals, globals}
use Rattle.lines.specs.Lines.{lines_in, read_at, nodes_in}
use Rattle.refs.proofs.Nodes.{node-count}
use Rattle.checks.specs.Checks.{Checked}
use Rattle.source.specs.Walk.{declares_at, open_at, located_to, var_of, by_kind}
use Rattle.source.proofs.Walk.{located-all, source-of}
use Rattle.source.proofs.Declares.{line-declares}
use Rattle.implement.specs.Modules.{own_in}
use Rattle.globals.specs.Collect.{lay_lines, lay_line}
use Rattle.globals.specs.Vars.{located_at}
use Rattle.globals.specs.Allocation.{Allocation, no_allocation, allocation_of, lay_at, lay_name, lay_names, lay_vars, laid_to}

-- ---- what is declared, without first values

lay_declared : List Declared → Allocation → Allocation
lay_declared [] l = l
lay_declared (d ∷ ds) l = lay_declared ds (lay_at d.ty d.name (place_of d.name l.places) l)

place-only : (d : Declared) (o : Option ℕ) (g : Globals) → allocation_of (declare_at d o g) ≡ lay_at d.ty d.name o (allocation_of g)
place-only d None g = refl
place-only d (Some off) g = refl

places-only : (ds : List Declared) (g : Globals) → allocation_of (globals_from g ds) ≡ lay_declared ds (allocation_of g)
unfolding lay_declared
places-only [] g = refl
places-only (d ∷ ds) g =
    let o = place_of d.name g.places in
    places-only ds (declare_at d o g) ∙ ap (lay_declared ds) (place-only d o g)

all_append : (ds es : List Declared) (l : Allocation) → lay_declared (ds ++ es) l ≡ lay_declared es (lay_declared ds l)
unfolding lay_declared
all_append [] es l = refl
all_append (d ∷ ds) es l = all_append ds es (lay_at d.ty d.name (place_of d.name l.places) l)

module _ (ns : Names) where
  -- a line's names
  by_names : (f : Bytes → Declared) (t : Ty) → ((n : Bytes) → (f n).name ≡ n) → ((n : Bytes) → (f n).ty ≡ t) → (xs : List Bytes) (l : Allocation) → lay_declared (map f (laid_names xs)) l ≡ lay_names t xs l
  unfolding lay_declared lay_names lay_name
  by_names f t hn ht [] l = refl
  by_names f t hn ht (x ∷ xs) l = go (same x (bytes "nil")) (λ (m : Allocation). by_names f t hn ht xs m)
    where
      go : (b : Bool) → ((m : Allocation) → lay_declared (map f (laid_names xs)) m ≡ lay_names t xs m)
          → lay_declared (map f (cond (not b) (x ∷ laid_names xs) (laid_names xs))) l ≡ lay_names t xs (cond b l (lay_at t x (place_of x l.places) l))
      go true ih = ih l
      go false ih = rw (hn x, ht x) (ih (lay_at t x (place_of x l.places) l))

  -- all lines
  by_lines : (impl : Option Bytes) (vs : List (Located VarDecl)) (l : Allocation)
      → lay_declared (concat_map (declared_by ns) (filter (λ (v : Located VarDecl). own_in impl v.within) vs)) l ≡ lay_vars impl vs l
  unfolding lay_declared lay_vars
  by_lines impl [] l = refl
  by_lines impl (v ∷ vs) l = go (own_in impl v.within) (λ (m : Allocation). by_lines impl vs m)
    where
      go : (b : Bool) → ((m : Allocation) → lay_declared (concat_map (declared_by ns) (filter (λ (w : Located VarDecl). own_in impl w.within) vs)) m ≡ lay_vars impl vs m)
          → lay_declared (concat_map (declared_by ns) (cond b (v ∷ filter (λ (w : Located VarDecl). own_in impl w.within) vs) (filter (λ (w : Located VarDecl). own_in impl w.within) vs))) l
          ≡ lay_vars impl vs (cond b (lay_names v.it.ty v.it.names l) l)
      go true ih =
          all_append (declared_by ns v) (concat_map (declared_by ns) (filter (λ (w : Located VarDecl). own_in impl w.within) vs)) l
          ∙ ih (lay_declared (declared_by ns v) l)
          ∙ ap (lay_vars impl vs) (by_names (λ (n : Bytes). record { name = n; ty = v.it.ty; first = or_no_init (init_of ns v.it.ty v.it.init) }) v.it.ty (λ n. refl) (λ n. refl) v.it.names l)
      go false ih = ih l

  source-places : (s : Source) → allocation_of (globals ns s) ≡ lay_vars s.implement s.vars no_allocation
  source-places s = places-only (declared_in ns s) no_globals ∙ by_lines s.implement s.vars no_allocation

-- ---- line by line

vars-append : (impl : Option Bytes) (vs ws : List (Located VarDecl)) (l : Allocation) → lay_vars impl (vs ++ ws) l ≡ lay_vars impl ws (lay_vars impl vs l)
unfolding lay_vars
vars-append impl [] ws l = refl
vars-append impl (v ∷ vs) ws l = vars-append impl vs ws (cond (own_in impl v.within) (lay_names v.it.ty v.it.names l) l)

-- one more name
pub names-next : (t : Ty) (ns : List Node) (fs : List Bytes) (j : ℕ) (l : Allocation) → lay_names t (values name ns (j + 1) fs) l ≡ lay_name t (get_or fs j []) (lay_names t (values name ns j fs) l)
unfolding lay_names
names-next t ns fs j l = rw add-one (go j fs l)
  where
    go : (k : ℕ) (gs : List Bytes) (m : Allocation) → lay_names t (values name ns (suc k) gs) m ≡ lay_name t (get_or gs k []) (lay_names t (values name ns k gs) m)
    go zero [] m = refl
    go zero (g ∷ gs) m = refl
    go (suc k) [] m = go k [] (lay_name t [] m)
    go (suc k) (g ∷ gs) m = go k gs (lay_name t g m)

module _ (s : Bytes) (c : Checked s) where
  -- the `var` lines of the sheet
  pub vars-are : (sheet_source s).vars ≡ located_to (λ (d : Declares). d.vars) (nodes_in s) (lines_in s)
  vars-are = ap (λ (o : Source). o.vars) (source-of s) ∙ located-all (λ (d : Declares). d.vars) (nodes_in s) ∙ ap (located_to (λ (d : Declares). d.vars) (nodes_in s)) (node-count s c.whole)

  pub laid-all : (ns : Names) → allocation_of (globals ns (sheet_source s)) ≡ laid_to s (lines_in s)
  unfolding laid_to
  laid-all ns = source-places ns (sheet_source s) ∙ ap (λ (vs : List (Located VarDecl)). lay_vars (sheet_source s).implement vs no_allocation) vars-are

  module _ (i : ℕ) (h : i < lines_in s) where
    pub laid_next : laid_to s (i + 1) ≡ lay_line s i (laid_to s i)
    unfolding laid_to located_to lay_vars by_kind lay_line lay_lines
    laid_next =
        let at : VarDecl → Located VarDecl = λ (v : VarDecl). record { line = suc i; within = open_at (nodes_in s) i; it = v } in
        ap (laid_to s) (add-one i)
        ∙ vars-append (sheet_source s).implement (located_to (λ (d : Declares). d.vars) (nodes_in s) i) (map at (declares_at (nodes_in s) i).vars) no_allocation
        ∙ ap (λ (d : Declares). lay_vars (sheet_source s).implement (map at d.vars) (laid_to s i)) (line-declares s c i h)
        ∙ go (eqb (letter (read_at s i).form.kind) 72) (own_in (sheet_source s).implement (open_at (nodes_in s) i)) refl
      where
        go : (b d : Bool) → own_in (sheet_source s).implement (open_at (nodes_in s) i) ≡ d
            → lay_vars (sheet_source s).implement (map (λ (v : VarDecl). record { line = suc i; within = open_at (nodes_in s) i; it = v }) (cond b (var_of (nodes_in s) (read_at s i).fields ∷ []) [])) (laid_to s i) ≡ lay_lines (cond b (cond d (located_at s i ∷ []) []) []) (laid_to s i)
        go true true e = rw e
        go true false e = rw e
        go false d e = refl
