-- The places and items of a sheet whose names are apart: each global adds one place and its own items.
use Prim.Native.Nat.{ℕ, ◌+◌}
use mathlib.Core.Path.{◌≡◌, refl, sym, ap, ◌∙◌, subst}
use mathlib.Core.Bool.{Bool, true, false, not, cond}
use mathlib.Core.List.{List, [], ◌∷◌, ◌++◌, map, append_assoc, append-nil}
use Rattle.std.specs.Prelude.{Option, None, Some}
use Rattle.semantics.specs.Text.{Bytes, same, any}
use Rattle.semantics.specs.Sheet.{Source}
use Rattle.semantics.specs.Global.{Item, Declared, Global, Globals, place_of, declare_at, globals_from, no_globals, global_size, new_offset, init_items}
use Rattle.semantics.specs.Refusal.{source_globals}
use Rattle.semantics.specs.Demand.{names_distinct, source_declared, laid_from, laid_of, global_of}
use borrow.Author.Tests.{not-true}
use Rattle.laws.proofs.Tests.{and_left, and_right, or_left, or_right}

-- ---- places, items and end by the globals

abbrev pub place_at : Declared → ℕ → Global
place_at d e = record { name = d.name; offset = new_offset d.ty e; ty = d.ty }

abbrev pub end_at : Declared → ℕ → ℕ
end_at d e = new_offset d.ty e + global_size d.ty

abbrev pub items_at : Declared → ℕ → List Item
items_at d e = init_items (new_offset d.ty e) d.ty d.first

abbrev pub places_from : ℕ → List Declared → List Global
places_from e [] = []
places_from e (d ∷ ds) = place_at d e ∷ places_from (end_at d e) ds

abbrev pub items_from : ℕ → List Declared → List Item
items_from e [] = []
items_from e (d ∷ ds) = items_at d e ++ items_from (end_at d e) ds

abbrev pub end_from : ℕ → List Declared → ℕ
end_from e [] = e
end_from e (d ∷ ds) = end_from (end_at d e) ds

placed-laid : (ds : List Declared) (e k a : ℕ) → map global_of (laid_from e k a ds) ≡ places_from e ds
placed-laid [] e k a = refl
placed-laid (d ∷ ds) e k a = ap (λ (r : List Global). place_at d e ∷ r) (placed-laid ds (end_at d e) _ _)

-- ---- names that have no place yet

abbrev Free : List Global → List Declared → Type 0
Free gs [] = Unit {0}
Free gs (d ∷ ds) = (place_of d.name gs ≡ None) × Free gs ds

place_other : (n : Bytes) (gs : List Global) (g : Global) → place_of n gs ≡ None → same n g.name ≡ false → place_of n (gs ++ (g ∷ [])) ≡ None
place_other n [] g h e = rw e
place_other n (x ∷ xs) g h e = go (same n x.name) h (λ q. place_other n xs g q e)
  where
    go : (b : Bool) → cond b (Some x.offset) (place_of n xs) ≡ None → (place_of n xs ≡ None → place_of n (xs ++ (g ∷ [])) ≡ None)
        → cond b (Some x.offset) (place_of n (xs ++ (g ∷ []))) ≡ None
    go true p f = p
    go false p f = f p

abbrev stands : Bytes → List Declared → Bool
stands n ds = any (λ (e : Declared). same e.name n) ds

free_more : (gs : List Global) (g : Global) (ds : List Declared) → stands g.name ds ≡ false → Free gs ds → Free (gs ++ (g ∷ [])) ds
free_more gs g [] h f = tt
free_more gs g (d ∷ ds) h f =
    let here = same d.name g.name in
    let rest = stands g.name ds in
    (place_other d.name gs g f.0 (or_left here rest h), free_more gs g ds (or_right here rest h) f.1)

none-placed : (ds : List Declared) → Free [] ds
none-placed [] = tt
none-placed (d ∷ ds) = (refl, none-placed ds)

-- ---- what the globals add

record Grown (g : Globals) (ds : List Declared) (h : Globals) : Type 0 where
  places : h.places ≡ g.places ++ places_from g.end ds
  items : h.items ≡ g.items ++ items_from g.end ds
  end : h.end ≡ end_from g.end ds

grown : (ds : List Declared) (g : Globals) → Free g.places ds → names_distinct ds ≡ true → Grown g ds (globals_from g ds)
grown [] g f h = record { places = sym (append-nil g.places); items = sym (append-nil g.items); end = refl }
grown (d ∷ ds) g f h =
    let e = g.end in
    let again = stands d.name ds in
    let apart = not-true again (and_left (not again) (names_distinct ds) h) in
    let i = grown ds (declare_at d None g) (free_more g.places (place_at d e) ds apart f.1) (and_right (not again) (names_distinct ds) h) in
    subst (Grown g (d ∷ ds)) (ap (λ (o : Option ℕ). globals_from (declare_at d o g) ds) (sym f.0))
    (record {
      places = i.places ∙ append_assoc g.places (place_at d e ∷ []) (places_from (end_at d e) ds);
      items = i.items ∙ append_assoc g.items (items_at d e) (items_from (end_at d e) ds);
      end = i.end;
    })

-- ---- of a sheet

pub record GlobalsMade (s : Source) : Type 0 where
  pub places : (source_globals s).places ≡ map global_of (laid_of s)
  pub items : (source_globals s).items ≡ items_from 0 (source_declared s)
  pub end : (source_globals s).end ≡ end_from 0 (source_declared s)

pub made : (s : Source) → names_distinct (source_declared s) ≡ true → GlobalsMade s
made s h =
    let ds = source_declared s in
    let g = grown ds no_globals (none-placed ds) h in
    record { places = g.places ∙ sym (placed-laid ds 0 0 0); items = g.items; end = g.end }
