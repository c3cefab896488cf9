-- Items and pending names are those of the lines that count, one after the other, each name at its place among all places: a place once given stays.
use mathlib.Core.Path.{◌≡◌, refl, sym, ap, ◌∙◌}
use mathlib.Core.Bool.{Bool, true, false, cond}
use mathlib.Core.List.{List, [], ◌∷◌, ◌++◌, map, append_assoc, append-nil}
use Rattle.std.specs.Prelude.{Option, None, Some}
use Prim.Native.Nat.{ℕ, zero, suc, ◌≤◌}
use native.Mathlib.Omega.{arith}
use lib.Dec.{eqb}
use Rattle.semantics.specs.Text.{Bytes, same, filter}
use Rattle.semantics.specs.Tree.{VarDecl, Declares}
use Rattle.semantics.specs.Form.{letter}
use Rattle.semantics.specs.Sheet.{Located, Source, concat_map, sheet_source}
use Rattle.semantics.specs.Fold.{Names}
use Rattle.semantics.specs.Global.{Item, Global, Declared, Globals, init_items, laid_vars, laid_names, declared_by, declared_in, place_of, pend_of, new_offset, declare_at, globals_from, no_globals, globals}
use Rattle.laws.proofs.Lists.{concat-append, filter-append}
use Rattle.laws.proofs.Tests.{same_refl}
use Rattle.lines.specs.Lines.{lines_in, read_at, nodes_in}
use Rattle.checks.specs.Checks.{Checked}
use Rattle.source.specs.Walk.{declares_at, open_at, located_to, var_of, by_kind}
use Rattle.source.proofs.Declares.{line-declares}
use Rattle.implement.specs.Modules.{own_in}
use Rattle.global_table.specs.Table.{offset_in}
use Rattle.globals.proofs.Allocation.{vars-are}
use Rattle.globals.specs.Vars.{located_at, laid_vars_to, first_init, var_items, line_items, var_pends}

-- ---- a place stays

place-append : (x : Bytes) (ps qs : List Global) {off : ℕ} → place_of x ps ≡ Some off → place_of x (ps ++ qs) ≡ Some off
place-append x [] qs h = let z : ◌≡◌ {A = ℕ} 0 1 = cc in absurd (omega arith)
place-append x (p ∷ ps) qs {off} h = go (same x p.name) h (λ q. place-append x ps qs q)
  where
    go : (b : Bool) → cond b (Some p.offset) (place_of x ps) ≡ Some off → (place_of x ps ≡ Some off → place_of x (ps ++ qs) ≡ Some off) → cond b (Some p.offset) (place_of x (ps ++ qs)) ≡ Some off
    go true q ih = q
    go false q ih = ih q

place-last : (x : Bytes) (ps : List Global) (p : Global) → place_of x ps ≡ None → p.name ≡ x → place_of x (ps ++ (p ∷ [])) ≡ Some p.offset
place-last x [] p h e = rw (e, same_refl x)
place-last x (q ∷ ps) p h e = go (same x q.name) h (λ k. place-last x ps p k e)
  where
    go : (b : Bool) → cond b (Some q.offset) (place_of x ps) ≡ None → (place_of x ps ≡ None → place_of x (ps ++ (p ∷ [])) ≡ Some p.offset) → cond b (Some q.offset) (place_of x (ps ++ (p ∷ []))) ≡ Some p.offset
    go true k ih = let z : ◌≡◌ {A = ℕ} 0 1 = cc in absurd (omega arith)
    go false k ih = ih k

declared-stays : (x : Bytes) (d : Declared) (o : Option ℕ) (g : Globals) {off : ℕ} → place_of x g.places ≡ Some off → place_of x (declare_at d o g).places ≡ Some off
declared-stays x d None g h = place-append x g.places (record { name = d.name; offset = new_offset d.ty g.end; ty = d.ty } ∷ []) h
declared-stays x d (Some o) g h = h

place-stays : (x : Bytes) (ds : List Declared) (g : Globals) {off : ℕ} → place_of x g.places ≡ Some off → place_of x (globals_from g ds).places ≡ Some off
place-stays x [] g h = h
place-stays x (d ∷ ds) g h = place-stays x ds (declare_at d (place_of d.name g.places) g) (declared-stays x d (place_of d.name g.places) g h)

-- what one declaration adds, with its place
module _ (ps : List Global) (d : Declared) (g : Globals) where
  item-added : (o : Option ℕ) → place_of d.name g.places ≡ o → ((off : ℕ) → place_of d.name (declare_at d o g).places ≡ Some off → place_of d.name ps ≡ Some off)
      → (declare_at d o g).items ≡ g.items ++ init_items (offset_in d.name ps) d.ty d.first
  item-added None h k = rw (k (new_offset d.ty g.end) (place-last d.name g.places (record { name = d.name; offset = new_offset d.ty g.end; ty = d.ty }) h refl))
  item-added (Some off) h k = rw (k off h)

  pend-added : (o : Option ℕ) → (declare_at d o g).pends ≡ g.pends ++ pend_of d.name d.first
  pend-added None = refl
  pend-added (Some off) = refl

items-from : (ps : List Global) (ds : List Declared) (g : Globals) → (globals_from g ds).places ≡ ps → (globals_from g ds).items ≡ g.items ++ concat_map (λ (d : Declared). init_items (offset_in d.name ps) d.ty d.first) ds
items-from ps [] g h = sym (append-nil g.items)
items-from ps (d ∷ ds) g h =
    let o = place_of d.name g.places in
    let g' = declare_at d o g in
    items-from ps ds g' h
    ∙ ap (λ (l : List Item). l ++ concat_map (λ (e : Declared). init_items (offset_in e.name ps) e.ty e.first) ds)
    (item-added ps d g o refl (λ off q. rw (← h) (place-stays d.name ds g' q)))
    ∙ append_assoc g.items (init_items (offset_in d.name ps) d.ty d.first) (concat_map (λ (e : Declared). init_items (offset_in e.name ps) e.ty e.first) ds)

pends-from : (ds : List Declared) (g : Globals) → (globals_from g ds).pends ≡ g.pends ++ concat_map (λ (d : Declared). pend_of d.name d.first) ds
pends-from [] g = sym (append-nil g.pends)
pends-from (d ∷ ds) g =
    let o = place_of d.name g.places in
    pends-from ds (declare_at d o g)
    ∙ ap (λ (l : List Bytes). l ++ concat_map (λ (e : Declared). pend_of e.name e.first) ds) (pend-added [] d g o)
    ∙ append_assoc g.pends (pend_of d.name d.first) (concat_map (λ (e : Declared). pend_of e.name e.first) ds)

-- ---- by lines

concat-map : {A B C : Type 0} (f : B → List C) (g : A → B) (xs : List A) → concat_map f (map g xs) ≡ concat_map (λ (x : A). f (g x)) xs
concat-map f g [] = refl
concat-map f g (x ∷ xs) = rw (concat-map f g xs)

concat-concat : {A B C : Type 0} (f : B → List C) (g : A → List B) (xs : List A) → concat_map f (concat_map g xs) ≡ concat_map (λ (x : A). concat_map f (g x)) xs
concat-concat f g [] = refl
concat-concat f g (x ∷ xs) = concat-append f (g x) (concat_map g xs) ∙ rw (concat-concat f g xs)

concat-same : {A B : Type 0} (f g : A → List B) → ((x : A) → f x ≡ g x) → (xs : List A) → concat_map f xs ≡ concat_map g xs
concat-same f g h [] = refl
concat-same f g h (x ∷ xs) = rw (h x, concat-same f g h xs)

module _ (ns : Names) (s : Source) where
  pub items-by : (globals ns s).items ≡ line_items ns (globals ns s).places (laid_vars s)
  items-by =
      let ps = (globals ns s).places in
      let f : Declared → List Item = λ (d : Declared). init_items (offset_in d.name ps) d.ty d.first in
      items-from ps (declared_in ns s) no_globals refl ∙ concat-concat f (declared_by ns) (laid_vars s)
      ∙ concat-same (λ (v : Located VarDecl). concat_map f (declared_by ns v)) (λ (v : Located VarDecl). var_items ns ps v.it)
      (λ v. concat-map f (λ (x : Bytes). record { name = x; ty = v.it.ty; first = first_init ns v.it }) (laid_names v.it.names)) (laid_vars s)

  pub pends-by : (globals ns s).pends ≡ concat_map (λ (v : Located VarDecl). var_pends ns v.it) (laid_vars s)
  pends-by =
      let f : Declared → List Bytes = λ (d : Declared). pend_of d.name d.first in
      pends-from (declared_in ns s) no_globals ∙ concat-concat f (declared_by ns) (laid_vars s)
      ∙ concat-same (λ (v : Located VarDecl). concat_map f (declared_by ns v)) (λ (v : Located VarDecl). var_pends ns v.it)
      (λ v. concat-map f (λ (x : Bytes). record { name = x; ty = v.it.ty; first = first_init ns v.it }) (laid_names v.it.names)) (laid_vars s)

-- ---- the lines that count, line by line

module _ (s : Bytes) (c : Checked s) where
  lines-to : (i : ℕ) → i ≤ lines_in s → filter (λ (v : Located VarDecl). own_in (sheet_source s).implement v.within) (located_to (λ (d : Declares). d.vars) (nodes_in s) i) ≡ laid_vars_to s i
  unfolding located_to laid_vars_to by_kind
  lines-to zero h = refl
  lines-to (suc i) h =
      let p : Located VarDecl → Bool = λ (v : Located VarDecl). own_in (sheet_source s).implement v.within in
      let at : VarDecl → Located VarDecl = λ (v : VarDecl). record { line = suc i; within = open_at (nodes_in s) i; it = v } in
      filter-append p (located_to (λ (d : Declares). d.vars) (nodes_in s) i) (map at (declares_at (nodes_in s) i).vars)
      ∙ rw (lines-to i (omega arith))
      (ap (λ (d : Declares). laid_vars_to s i ++ filter p (map at d.vars)) (line-declares s c i (omega arith)) ∙ go (eqb (letter (read_at s i).form.kind) 72))
    where
      go : (b : Bool)
          → laid_vars_to s i ++ filter (λ (v : Located VarDecl). own_in (sheet_source s).implement v.within) (map (λ (v : VarDecl). record { line = suc i; within = open_at (nodes_in s) i; it = v }) (cond b (var_of (nodes_in s) (read_at s i).fields ∷ []) []))
          ≡ laid_vars_to s i ++ cond b (cond (own_in (sheet_source s).implement (open_at (nodes_in s) i)) (located_at s i ∷ []) []) []
      go true = refl
      go false = refl

  pub laid-lines : laid_vars (sheet_source s) ≡ laid_vars_to s (lines_in s)
  laid-lines = ap (filter (λ (v : Located VarDecl). own_in (sheet_source s).implement v.within)) (vars-are s c) ∙ lines-to (lines_in s) (omega arith)
