-- What the replay of a source's listing leaves, where its names are plain and its values have 64 bits, is what the definition says of its
-- items.
use Prim.Native.Nat.{ℕ, ◌≤◌}
use native.Mathlib.Omega.{arith}
use native.Mathlib.Nat.{sub-zero}
use mathlib.Core.Path.{◌≡◌, refl, sym, ap, ◌∙◌}
use mathlib.Core.Bool.{false}
use mathlib.Core.List.{List, map}
use Rattle.std.specs.Prelude.{Option, None, Some}
use lib.ListN.{length}
use Rattle.semantics.specs.Text.{Bytes}
use Rattle.semantics.specs.Sheet.{Source}
use Rattle.semantics.specs.Fold.{Const}
use Rattle.semantics.specs.Global.{Globals, Declared, declared_in}
use Rattle.semantics.specs.Types.{id_of}
use Rattle.semantics.specs.Listing.{listing}
use Rattle.semantics.specs.Refusal.{Buffers, Imaged, laid, not_laid, zeros, padded, image_bytes, area_bytes, replayed, source_globals, source_listing}
use Rattle.semantics.specs.Const.{constants, names_of}
use Rattle.stored.specs.Stored.{Stored, stored_of}
use Rattle.stored.specs.Reading.{size_in}
use Rattle.stored.specs.Laying.{Laying, lay_all, laying_start, InPlace}
use Rattle.stored.proofs.Items.{Readable}
use Rattle.stored.proofs.Others.{PlainNames, listing-read}
use Rattle.stored.proofs.Laying.{LaysAs, replayed-by}
use Rattle.stored.proofs.Names.{PlainSource, plain-listing}
use Rattle.stored.proofs.Places.{globals-in-place}
use Rattle.stored.proofs.Sizes.{few-types, listing-readable}
use Rattle.stored.proofs.Ranges.{SoundFirst, globals-ranged}
use Rattle.replay.specs.Whole.{laid_listing, answer_of, laid_image, laid_area, Replays}
use Rattle.laws.specs.Every.{Every}

abbrev pub lengths_of : Imaged → Option (ℕ × ℕ)
lengths_of (laid image area) = Some (length image, length area)
lengths_of (not_laid n k) = None

pub record Meets (q : Imaged) (image area : ℕ) (r : Option (ℕ × ℕ)) (image' area' : Bytes) : Type 0 where
  pub answer : r ≡ lengths_of q
  pub image_is : image' ≡ padded image (image_bytes q)
  pub area_is : area' ≡ padded area (area_bytes q)

by_answer : (q : Imaged) (b : Buffers) (m : Option Laying) → LaysAs q b.image b.area m → Meets q b.image b.area (answer_of m) (laid_image b.image m) (laid_area b.area m)
by_answer q b None h = rw h (record { answer = refl; image_is = ap zeros (sym (sub-zero b.image)); area_is = ap zeros (sym (sub-zero b.area)) })
by_answer q b (Some m) h = record {
  answer = (λ j. Some (h.long j, h.end j)) ∙ sym (ap lengths_of h.is);
  image_is = h.image_is;
  area_is = h.area_is;
}

module _ (s : Source) (cs : List Const) (g : Globals) (b : Buffers) (plain : PlainNames s cs g) (readable : Every (Readable (size_in (listing s cs g)) (id_of s g.items)) g.items)
    (place : InPlace 0 0 false (map stored_of g.items)) where
  laid-items : laid_listing (listing s cs g) g.end b.image b.area ≡ lay_all (map stored_of g.items) (laying_start g.end b.image b.area)
  unfolding laid_listing
  laid-items = ap (λ (xs : List Stored). lay_all xs (laying_start g.end b.image b.area)) (listing-read s cs g plain (size_in (listing s cs g)) readable)

  pub replay-meets : {t u image image' area area' : Bytes} {r : Option (ℕ × ℕ)} → length image ≡ b.image → length area ≡ b.area
      → Replays (listing s cs g) g.end t u image image' area area' r → Meets (replayed b g) b.image b.area r image' area'
  replay-meets hi ha h =
      let e = laid-items in
      let m = by_answer (replayed b g) b (lay_all (map stored_of g.items) (laying_start g.end b.image b.area)) (replayed-by b g place) in
      record {
        answer = h.answer ∙ (λ j. answer_of (laid_listing (listing s cs g) g.end (hi j) (ha j))) ∙ ap answer_of e ∙ m.answer;
        image_is = h.image_is ∙ (λ j. laid_image (hi j) (laid_listing (listing s cs g) g.end (hi j) (ha j))) ∙ ap (laid_image b.image) e ∙ m.image_is;
        area_is = h.area_is ∙ (λ j. laid_area (ha j) (laid_listing (listing s cs g) g.end (hi j) (ha j))) ∙ ap (laid_area b.area) e ∙ m.area_is;
      }

-- the same of a source whose names hold no separators, whose frames and needs are as many as a checked sheet's, and whose values have 64 bits
pub sheet-meets : (s : Source) (b : Buffers) → PlainSource s → length s.frames ≤ 128 → length s.needs ≤ 128
    → Every (λ (d : Declared). SoundFirst d.first) (declared_in (names_of s) s)
    → {t u image image' area area' : Bytes} {r : Option (ℕ × ℕ)} → length image ≡ b.image → length area ≡ b.area
    → Replays (source_listing s) (source_globals s).end t u image image' area area' r
    → Meets (replayed b (source_globals s)) b.image b.area r image' area'
sheet-meets s b names frames needs sound =
    let g = source_globals s in
    let cs = (constants s).log in
    let plain = plain-listing s (names_of s) names in
    let few = few-types s g.items frames needs in
    replay-meets s cs g b plain (listing-readable s cs g plain (omega arith) (globals-ranged (names_of s) s sound)) (globals-in-place (names_of s) s 0 0)
