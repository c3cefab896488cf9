-- Demand 3, proved.
use Prim.Native.Nat.{ℕ, ◌≤◌}
use native.Mathlib.Nat.{zero-add, le_refl}
use mathlib.Core.Path.{◌≡◌, refl, ap, ◌∙◌, subst}
use mathlib.Core.Bool.{Bool, true, false, cond}
use mathlib.Core.List.{List, [], ◌∷◌}
use lib.ListN.{length, get_or, replicate, length-replicate}
use lib.Dec.{ltb}
use Rattle.semantics.specs.Text.{Bytes}
use Rattle.semantics.specs.Tree.{VarDecl}
use Rattle.semantics.specs.Sheet.{Source, Located, sheet_source, concat_map}
use Rattle.semantics.specs.Layout.{recorded_adts}
use Rattle.semantics.specs.Fold.{Names}
use Rattle.semantics.specs.Const.{names_of}
use Rattle.semantics.specs.Global.{Item, Globals, Declared, declared_by, laid_vars}
use Rattle.semantics.specs.Image.{Memory, memory_of, area_after}
use Rattle.semantics.specs.Refusal.{Buffers, Outcome, Imaged, source_globals, laid_in, replayed, after_listing, compiled, imaged, image_bytes, area_bytes}
use Rattle.semantics.specs.Refusal.Outcome.{listed, refused}
use Rattle.semantics.specs.Refusal.Imaged.{laid, not_laid}
use Rattle.semantics.proofs.Common.{never, zeros-at}
use Rattle.semantics.specs.Demand.{names_distinct, kinds_fit, source_declared, laid_from, AllDeclared, image_end, area_end, EveryByte, Demand}
use Rattle.demand.proofs.Records.{records-apart}
use Rattle.demand.proofs.Elements.{ValuesFit, array-given, init-sized}
use Rattle.demand.proofs.Lines.{every-declared, all-declared, names-declared, value-folded}
use Rattle.demand.proofs.Places.{end_from, items_from, made}
use Rattle.demand.proofs.Replay.{AllSized, parts_from, items-end, replayed as replay-adds}
use Rattle.demand.proofs.Items.{all-items}
use Rattle.laws.proofs.Every.{every_append}

-- ---- no array of a sheet has more values than its length

pub vars-sized : (ns : Names) (vs : List (Located VarDecl)) → AllSized (concat_map (declared_by ns) vs)
vars-sized ns [] = tt
vars-sized ns (v ∷ vs) =
    let sized : Declared → Type 0 = λ d. ValuesFit d.first in
    every_append sized (declared_by ns v) (concat_map (declared_by ns) vs) (every-declared sized ns v λ n i. init-sized ns v.it.ty v.it.init) (vars-sized ns vs)

-- ---- the ends by the places

end-laid : (ds : List Declared) (e k a : ℕ) → end_from e ds ≡ image_end e (laid_from e k a ds)
end-laid [] e k a = refl
end-laid (d ∷ ds) e k a = end-laid ds _ _ _

parts-laid : (ds : List Declared) (e k a : ℕ) → parts_from a ds ≡ area_end a (laid_from e k a ds)
parts-laid [] e k a = refl
parts-laid (d ∷ ds) e k a = parts-laid ds _ _ _

-- ---- an accepted sheet's image and area are those of its globals

never-laid : {A : Type 0} (n k : ℕ) (image area : Bytes) → not_laid n k ≡ laid image area → A
never-laid n k image area h = never cc

module _ (image area : Bytes) where
  if-laid : (t : Bool) (x : Imaged) → cond t (not_laid 13 0) x ≡ laid image area → x ≡ laid image area
  if-laid true x h = never-laid 13 0 image area h
  if-laid false x h = h

  listing-laid : (b : Buffers) (g : Globals) (o : Outcome) → after_listing b g o ≡ laid image area → replayed b g ≡ laid image area
  listing-laid b g (listed out) h = h
  listing-laid b g (refused n k) h = never-laid n k image area h

  lines-laid : (b : Buffers) (s : Bytes) (g : Globals) (o : Outcome) → compiled b.listing b.work s ≡ o → after_listing b g o ≡ laid image area
      → AllDeclared (names_of (sheet_source s)) (laid_vars (sheet_source s)) (source_declared (sheet_source s))
  lines-laid b s g (listed out) e h = all-declared b.listing b.work s out e
  lines-laid b s g (refused n k) e h = never-laid n k image area h

  memory-laid : (b : Buffers) (g : Globals) (o : Outcome) → after_listing b g o ≡ laid image area → laid (memory_of g).image (memory_of g).area ≡ laid image area
  memory-laid b g o h =
      let m = memory_of g in
      if-laid (ltb b.image (length m.image)) (laid m.image m.area) (if-laid (ltb b.area (area_after 0 g.items)) (laid_in b m) (listing-laid b g o h))

-- ---- the claim

abbrev of_items : ℕ → List Item → Memory
of_items end is = memory_of (record { places = []; end = end; pends = []; items = is })

-- of image and area as replay leaves them
every-byte : (s : Source) → names_distinct (source_declared s) ≡ true → kinds_fit (source_declared s) ≡ true
    → EveryByte s (memory_of (source_globals s)).image (memory_of (source_globals s)).area
unfolding memory_of
every-byte s distinct kinds =
    let ds = source_declared s in
    let m = made s distinct in
    let end = end_from 0 ds in
    let parts = area_after 0 (items_from 0 ds) in
    let is : memory_of (source_globals s) ≡ of_items end (items_from 0 ds) = λ i. of_items (m.end i) (m.items i) in
    let room : parts_from 0 ds ≤ length (replicate {A = ℕ} parts 0) = rw (length-replicate {A = ℕ} parts 0, items-end ds 0 0) (le_refl (parts_from 0 ds)) in
    let r = replay-adds ds 0 0 (replicate end 0) (replicate parts 0) 0 [] kinds (vars-sized (names_of s) (laid_vars s))
    (rw (length-replicate {A = ℕ} end 0) (le_refl end)) (λ p q. zeros-at end p) room (λ p q. zeros-at parts p) in
    record {
      image_long = ap (λ (x : Memory). length x.image) is ∙ r.image_long ∙ length-replicate {A = ℕ} end 0 ∙ end-laid ds 0 0 0;
      area_long = ap (λ (x : Memory). length x.area) is ∙ r.area_long ∙ length-replicate {A = ℕ} parts 0 ∙ items-end ds 0 0 ∙ parts-laid ds 0 0 0;
      image_at = λ p. ap (λ (x : Memory). get_or x.image p 0) is ∙ r.image p ∙ rw (zeros-at end p, zero-add);
      area_at = λ p. ap (λ (x : Memory). get_or x.area p 0) is ∙ r.area p ∙ rw (zeros-at parts p, zero-add);
      places = m.places;
      items = all-items ds (source_globals s).items m.items;
    }

pub demand : Demand
unfolding imaged
demand b s image area accepted =
    let src = sheet_source s in
    let l = memory-laid image area b (source_globals src) (compiled b.listing b.work s) accepted in
    record {
      every_byte = λ distinct kinds.
          subst (λ (x : Bytes). EveryByte src x area) (ap image_bytes l) (subst (EveryByte src (memory_of (source_globals src)).image) (ap area_bytes l) (every-byte src distinct kinds));
      lines = lines-laid image area b s (source_globals src) (compiled b.listing b.work s) refl accepted;
      names = names-declared (names_of src) (laid_vars src);
      folded = value-folded (names_of src);
      elements = array-given (names_of src);
      records_apart = records-apart (recorded_adts src);
    }
