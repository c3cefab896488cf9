-- From what compiling and replay leave to the contract of `image`.
use Prim.Native.Nat.{ℕ, ◌-◌, ◌≤◌}
use native.Mathlib.Nat.{sub-zero}
use native.Mathlib.Omega.{arith}
use Rattle.std.specs.Prelude.{Result, Ok, Err}
use mathlib.Core.Path.{◌≡◌, refl, sym, ap, ◌∙◌, subst}
use mathlib.Core.Bool.{Bool, true, false, cond}
use mathlib.Core.List.{[]}
use lib.ListN.{length, take, length-append}
use lib.Seq.{take-append_seam}
use lib.Dec.{ltb}
use Rattle.semantics.specs.Text.{Bytes}
use Rattle.semantics.specs.Sheet.{sheet_source}
use Rattle.semantics.specs.Global.{Globals}
use Rattle.semantics.specs.Image.{memory_of, area_after}
use Rattle.semantics.specs.Refusal.{Buffers, Outcome, Imaged, compiled, imaged, zeros, padded, listing_bytes, listing_kept, image_bytes, area_bytes, replayed, after_listing, source_globals, source_listing}
use Rattle.semantics.specs.Refusal.Outcome.{listed, refused}
use Rattle.semantics.specs.Refusal.Imaged.{laid, not_laid}
use Rattle.semantics.proofs.Common.{never}
use Rattle.demand.proofs.Theorem.{demand}
use Rattle.std.specs.Prelude.{Option, None, Some}
use Rattle.std.proofs.lemmas.Option.{some_pair_parts}
use Rattle.replay.specs.Whole.{Replays}
use Rattle.replay.proofs.Meets.{lengths_of, Meets}
use Rattle.sound.proofs.Replay.{sheet-replayed}
use Rattle.answers.specs.declared.Refusal.{Refusal}
use Rattle.answers.specs.declared.Refusal.TheVariants.{Outgrown}
use Rattle.answers.specs.Answers.{refusal_number, refusal_line}
use Rattle.compile.specs.Compile.{ListingStands, Refuses}
use Rattle.image.specs.declared.Laid.{Laid}
use Rattle.image.specs.Image.{Pictures}

-- ---- bytes and zeros behind them

front : (n : ℕ) {i : ℕ} {d : Bytes} (xs : Bytes) → d ≡ padded n xs → i ≡ length xs → take i d ≡ xs
front n xs h e = (λ j. take (e j) (h j)) ∙ take-append_seam xs (zeros (n - length xs))

fits : (n : ℕ) {d : Bytes} (xs : Bytes) → d ≡ padded n xs → length d ≡ n → length xs ≤ n
fits n xs h e = let l = ap length h ∙ length-append xs (zeros (n - length xs)) in omega arith

blank : (n : ℕ) {d : Bytes} → d ≡ zeros n → d ≡ padded n []
blank n h = h ∙ ap zeros (sym (sub-zero n))

-- ---- the answers

module _ (s : Bytes) (b : Buffers) where
  laid-pictures : {l i a : ℕ} {listing image area : Bytes} (out x y : Bytes) → compiled b.listing b.work s ≡ listed out → imaged b s ≡ laid x y
      → l ≡ length out → l ≤ b.listing → listing ≡ padded b.listing out
      → i ≡ length x → image ≡ padded b.image x → length image ≡ b.image
      → a ≡ length y → area ≡ padded b.area y → length area ≡ b.area
      → Pictures s b (Ok (record { listing = l; image = i; area = a })) listing image area
  laid-pictures {l} {i} {a} {listing} {image} {area} out x y c q l-long l-fits listing-is i-long image-is image-fits a-long area-is area-fits =
      let e : laid (take i image) (take a area) ≡ imaged b s = (λ j. laid (front b.image x image-is i-long j) (front b.area y area-is a-long j)) ∙ sym q in
      record {
        answer = e;
        lengths = (l-long ∙ sym (ap (λ (o : Outcome). length (listing_bytes o)) c), l-fits, subst (λ (n : ℕ). n ≤ b.image) (sym i-long) (fits b.image x image-is image-fits), subst (λ (n : ℕ). n ≤ b.area) (sym a-long) (fits b.area y area-is area-fits));
        listing_is = listing-is ∙ (λ j. padded b.listing (listing_kept (sym c j) (sym q j)));
        image_is = image-is ∙ (λ j. padded b.image (image_bytes (sym q j)));
        area_is = area-is ∙ (λ j. padded b.area (area_bytes (sym q j)));
        demand = demand b s (take i image) (take a area) (sym e);
      }

  refused-pictures : {listing image area : Bytes} (r : Refusal) → imaged b s ≡ not_laid (refusal_number r) (refusal_line r)
      → listing ≡ padded b.listing [] → image ≡ padded b.image [] → area ≡ padded b.area []
      → Pictures s b (Err r) listing image area
  refused-pictures r q listing-is image-is area-is = record {
    answer = sym q;
    lengths = tt;
    listing_is = listing-is ∙ (λ j. padded b.listing (listing_kept (compiled b.listing b.work s) (sym q j)));
    image_is = image-is ∙ (λ j. padded b.image (image_bytes (sym q j)));
    area_is = area-is ∙ (λ j. padded b.area (area_bytes (sym q j)));
    demand = tt;
  }

  -- ---- a refused sheet

  not_listed : {q k : ℕ} → compiled b.listing b.work s ≡ refused q k → imaged b s ≡ not_laid q k
  unfolding imaged
  not_listed c = ap (after_listing b (source_globals (sheet_source s))) c

  pub list-refused : {listing image area work : Bytes} (r : Refusal) → Refuses (compiled b.listing b.work s) b.listing b.work r listing work → image ≡ zeros b.image → area ≡ zeros b.area
      → Pictures s b (Err r) listing image area
  list-refused r h image-is area-is = refused-pictures r (not_listed h.outcome) (blank b.listing h.bytes) (blank b.image image-is) (blank b.area area-is)

  -- ---- replay

  abbrev items : Globals
  items = source_globals (sheet_source s)

  replays : {out : Bytes} → compiled b.listing b.work s ≡ listed out → imaged b s ≡ replayed b items
  unfolding imaged
  replays c = ap (after_listing b items) c

  abbrev Listing : ℕ → ℕ → Bytes → Type 0
  Listing l end listing = ListingStands s (compiled b.listing b.work s) b.listing l end listing

  -- the items of the sheet's listing are replayed, so that the definition's image and area stand there
  met : {l end : ℕ} {listing t t' image image' area area' : Bytes} {r : Option (ℕ × ℕ)} → Listing l end listing → length image ≡ b.image → length area ≡ b.area
      → Replays (take l listing) end t t' image image' area area' r → Meets (imaged b s) b.image b.area r image' area'
  met {l} {end} {listing} {t} {t'} {image} {image'} {area} {area'} {r} h image-long area-long e =
      let out = front b.listing (source_listing (sheet_source s)) h.bytes h.long in
      let at : Replays (source_listing (sheet_source s)) items.end t t' image image' area area' r = subst (λ (n : ℕ). Replays (source_listing (sheet_source s)) n t t' image image' area area' r) h.ends (subst (λ (x : Bytes). Replays x end t t' image image' area area' r) out e) in
      subst (λ (q : Imaged). Meets q b.image b.area r image' area') (sym (replays h.outcome)) (sheet-replayed s h.checked b image-long area-long at)

  -- replay refuses by 13 alone
  outgrown : (t u : Bool) (x y : Bytes) → None ≡ lengths_of (cond t (not_laid 13 0) (cond u (not_laid 13 0) (laid x y))) → cond t (not_laid 13 0) (cond u (not_laid 13 0) (laid x y)) ≡ not_laid 13 0
  outgrown true u x y h = refl
  outgrown false true x y h = refl
  outgrown false false x y h = never cc

  never-fits : None ≡ lengths_of (replayed b items) → replayed b items ≡ not_laid 13 0
  never-fits h = let m = memory_of items in outgrown (ltb b.area (area_after 0 items.items)) (ltb b.image (length m.image)) m.image m.area h

  by-image : {l i a end : ℕ} {listing image area : Bytes} {r : Option (ℕ × ℕ)} (q : Imaged) → imaged b s ≡ q → Listing l end listing
      → length image ≡ b.image → length area ≡ b.area → r ≡ Some (i, a) → Meets q b.image b.area r image area
      → Pictures s b (Ok (record { listing = l; image = i; area = a })) listing image area
  by-image {l} {i} {a} (laid x y) q h image-long area-long e m =
      let f : Some (i, a) ≡ Some (length x, length y) = sym e ∙ m.answer in
      let g = some_pair_parts i (length x) a (length y) f in
      laid-pictures (source_listing (sheet_source s)) x y h.outcome q h.long h.room h.bytes g.0 m.image_is image-long g.1 m.area_is area-long
  by-image {l} {i} {a} (not_laid n k) q h image-long area-long e m =
      let f : Some (i, a) ≡ None = sym e ∙ m.answer in
      never cc

  module _ {l end : ℕ} {listing t t' image image' area area' : Bytes} {r : Option (ℕ × ℕ)} (h : Listing l end listing)
      (image-long : length image ≡ b.image) (area-long : length area ≡ b.area) (e : Replays (take l listing) end t t' image image' area area' r) where
    pub replay-laid : {i a : ℕ} → length image' ≡ length image → length area' ≡ length area → r ≡ Some (i, a) → Pictures s b (Ok (record { listing = l; image = i; area = a })) listing image' area'
    replay-laid image-kept area-kept given = by-image (imaged b s) refl h (image-kept ∙ image-long) (area-kept ∙ area-long) given (met h image-long area-long e)

    pub replay-outgrown : {listing' : Bytes} → r ≡ None → length listing ≡ b.listing → listing' ≡ zeros (length listing) → Pictures s b (Err Outgrown) listing' image' area'
    replay-outgrown given listing-long listing-is =
        let m = met h image-long area-long e in
        let is = replays h.outcome in
        let q = is ∙ never-fits (sym given ∙ m.answer ∙ ap lengths_of is) in
        refused-pictures Outgrown q (blank b.listing (listing-is ∙ ap zeros listing-long)) (m.image_is ∙ (λ j. padded b.image (image_bytes (q j)))) (m.area_is ∙ (λ j. padded b.area (area_bytes (q j))))

-- ---- for callers: the parts of the buffers that the answer counts

pub laid-within : {s : Bytes} {b : Buffers} {x : Laid} {listing image area : Bytes} → Pictures s b (Ok x) listing image area → (x.listing ≤ b.listing) × (x.image ≤ b.image) × (x.area ≤ b.area)
laid-within h = (h.lengths.1, h.lengths.2, h.lengths.3)
