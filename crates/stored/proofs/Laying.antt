-- A replay in lent buffers leaves in them what a replay gives, with zeros behind it, and outgrows them exactly when that does not fit.
use Prim.Native.Nat.{ℕ, suc, ◌+◌, ◌-◌, ◌*◌, ◌≤◌, ◌<◌, max}
use native.Mathlib.Omega.{arith}
use mathlib.Core.Path.{◌≡◌, refl, sym, ap, ◌∙◌, subst}
use mathlib.Core.Bool.{Bool, true, false, ◌||◌, cond, or-true}
use mathlib.Core.List.{List, [], ◌∷◌, map}
use Rattle.std.specs.Prelude.{Option, None, Some}
use lib.ListN.{length, get_or, replicate, length-append, length-replicate}
use lib.Seq.{ext_get_or}
use lib.Dec.{ltb}
use borrow.Author.Tests.{ltb-true, ltb-false, lt-ltb, le-ltb, eq-eqb}
use borrow.Rule.Slice.PartMut.{mid_of, put_mid, same_len_mid}
use Rattle.semantics.specs.Text.{Bytes, big_endian}
use Rattle.semantics.specs.Global.{Item, Globals}
use Rattle.semantics.specs.Global.Item.{values_item, str_item, array_item, set_item, back_item}
use Rattle.semantics.specs.Image.{handle, part_at, end_after, area_after, Replay, replay, memory_of, start_of, lay, moved, with_part as with_replay_part}
use Rattle.semantics.specs.Demand.{lies_in}
use Rattle.semantics.specs.Refusal.{Buffers, Imaged, laid, not_laid, zeros, padded, image_bytes, area_bytes, replayed}
use Rattle.semantics.proofs.Common.{zeros-at, never}
use Rattle.write.proofs.Wrote.{length_over}
use Rattle.demand.proofs.Bytes.{get_or-zeros}
use Rattle.write.specs.Wrote.{over}
use Rattle.stored.specs.Stored.{Stored, bytes_at, string_at, array_at, set_at, go_back, stored_of, replay_one, replay_stored}
use Rattle.stored.specs.Laying.{Laying, lay_image, lay_part, lay_bytes, new_part, lay_array, move_to, lay_all, InPlace, laying_start}
use Rattle.stored.proofs.Items.{replay-stored}
use Rattle.stored.proofs.Written.{laid_byte, written-long, written_at, over-at, part-at}

-- where the area ends
abbrev area_end_behind : ℕ → List Stored → ℕ
area_end_behind e [] = e
area_end_behind e (bytes_at o ys ∷ xs) = area_end_behind e xs
area_end_behind e (string_at o ∷ xs) = area_end_behind e xs
area_end_behind e (array_at o size n ∷ xs) = area_end_behind (part_at e + size * n) xs
area_end_behind e (set_at o ∷ xs) = area_end_behind e xs
area_end_behind e (go_back ∷ xs) = area_end_behind e xs

area-end : (is : List Item) (e : ℕ) → area_end_behind e (map stored_of is) ≡ area_after e is
area-end [] e = refl
area-end (values_item o vs ∷ is) e = area-end is e
area-end (str_item o s ∷ is) e = area-end is e
area-end (array_item o k n ∷ is) e = area-end is (end_after e (array_item o k n))
area-end (set_item o ∷ is) e = area-end is e
area-end (back_item ∷ is) e = area-end is e

area-grows : (xs : List Stored) (e : ℕ) → e ≤ area_end_behind e xs
area-grows [] e = omega arith
area-grows (bytes_at o ys ∷ xs) e = area-grows xs e
area-grows (string_at o ∷ xs) e = area-grows xs e
area-grows (array_at o size n ∷ xs) e = let h = area-grows xs (part_at e + size * n) in omega arith
area-grows (set_at o ∷ xs) e = area-grows xs e
area-grows (go_back ∷ xs) e = area-grows xs e

lay-grows : (o : ℕ) (ys : Bytes) (i : Option ℕ) (r : Replay) → length r.image ≤ length (lay o ys i r).image
lay-grows o ys None r = let h = written-long r.image o ys in omega arith
lay-grows o ys (Some s) r = omega arith

image-grows : (xs : List Stored) (r : Replay) → length r.image ≤ length (replay_stored xs r).image
image-grows [] r = omega arith
image-grows (bytes_at o ys ∷ xs) r = let a = lay-grows o ys r.inside r in let b = image-grows xs (replay_one (bytes_at o ys) r) in omega arith
image-grows (string_at o ∷ xs) r = let a = lay-grows o (handle r.item) r.inside r in let b = image-grows xs (replay_one (string_at o) r) in omega arith
image-grows (array_at o size n ∷ xs) r =
    let a = lay-grows o (handle r.item) r.inside (with_replay_part o (part_at r.end + size * n) r) in
    let b = image-grows xs (replay_one (array_at o size n) r) in
    omega arith
image-grows (set_at o ∷ xs) r = image-grows xs (replay_one (set_at o) r)
image-grows (go_back ∷ xs) r = image-grows xs (replay_one go_back r)

-- ---- a replay and the one in buffers, side by side; the newest array stands at place p and has n bytes

abbrev inside_of : Laying → Option ℕ
inside_of m = cond m.inside (Some m.start) None

record Same (r : Replay) (m : Laying) (p n : ℕ) : Type 0 where
  item : m.item ≡ r.item
  image : (j : ℕ) → get_or m.image j 0 ≡ get_or r.image j 0
  long : length r.image ≡ m.long
  fits : m.long ≤ length m.image
  area : (j : ℕ) → j < length m.area → get_or m.area j 0 ≡ get_or r.area j 0
  end : r.end ≡ m.end
  start : start_of p r.parts ≡ m.start
  size : m.start + n ≡ m.end
  high : m.end ≤ length m.area
  inside : r.inside ≡ inside_of m

-- what a replay r, whose parts end at e, comes to in buffers of so many bytes
record ComesTo (r : Replay) (e image area : ℕ) (m : Laying) : Type 0 where
  end : m.end ≡ e
  room : e ≤ area
  area_long : length r.area ≡ e
  long : m.long ≡ length r.image
  fits : length r.image ≤ image
  image_is : m.image ≡ padded image r.image
  area_is : m.area ≡ padded area r.area

abbrev Ending : Replay → ℕ → ℕ → ℕ → Option Laying → Type 0
Ending r e image area None = ltb area e || ltb image (length r.image) ≡ true
Ending r e image area (Some m) = ComesTo r e image area m

abbrev Claim : List Stored → Type 0
Claim xs = (r : Replay) (m : Laying) (p n : ℕ) → Same r m p n → length r.area ≡ area_end_behind r.end xs → InPlace p n m.inside xs
    → Ending (replay_stored xs r) (area_end_behind r.end xs) (length m.image) (length m.area) (lay_all xs (Some m))

-- ---- nothing follows where something did not fit

pub lay-none : (xs : List Stored) → lay_all xs None ≡ None
lay-none [] = refl
lay-none (x ∷ xs) = lay-none xs

image-short : (xs : List Stored) (r : Replay) (e image area : ℕ) → image < length r.image → Ending (replay_stored xs r) e image area (lay_all xs None)
image-short xs r e image area h =
    let g = image-grows xs r in
    rw (lay-none xs) (rw (lt-ltb image (length (replay_stored xs r).image) (omega arith)) (or-true (ltb area e)))

area-short : (xs : List Stored) (r : Replay) (e e₁ image area : ℕ) → area < e → e ≤ e₁ → Ending (replay_stored xs r) e₁ image area (lay_all xs None)
area-short xs r e e₁ image area h g = rw (lay-none xs) (rw (lt-ltb area e₁ (omega arith)))

-- ---- the end

padded-is : (d xs : Bytes) → length xs ≤ length d → ((j : ℕ) → j < length d → get_or d j 0 ≡ get_or xs j 0) → d ≡ padded (length d) xs
padded-is d xs h e =
    ext_get_or 0 d (padded (length d) xs)
    (sym (length-append xs (zeros (length d - length xs)) ∙ omega (arith, length-replicate {A = ℕ} (length d - length xs) 0)))
    (λ j l. e j l ∙ sym (get_or-zeros xs (length d - length xs) j))

at-end : Claim []
at-end r m p n s room place =
    let e = s.end in
    let f = s.long in
    let g = s.fits in
    let k = s.high in
    record {
      end = sym s.end;
      room = omega arith;
      area_long = room;
      long = sym s.long;
      fits = omega arith;
      image_is = padded-is m.image r.image (omega arith) (λ j l. s.image j);
      area_is = padded-is m.area r.area (omega arith) s.area;
    }

-- ---- bytes laid in the image, or in the newest array's part

laid_same : (p : ℕ) (ys xs zs : Bytes) (j : ℕ) → get_or xs j 0 ≡ get_or zs j 0 → laid_byte p ys xs j ≡ laid_byte p ys zs j
unfolding laid_byte
laid_same p ys xs zs j e = ap (λ (b : ℕ). cond (lies_in j p (length ys)) (get_or ys (j - p) 0) b) e

module _ (o : ℕ) (ys : Bytes) (xs : List Stored) (r : Replay) (m : Laying) (p n : ℕ) (s : Same r m p n) (room : length r.area ≡ area_end_behind r.end xs) (place : InPlace p n m.inside xs)
    (next : Claim xs) where
  in_image : m.inside ≡ false → Ending (replay_stored xs (lay o ys r.inside r)) (area_end_behind r.end xs) (length m.image) (length m.area) (lay_all xs (lay_image o ys m))
  unfolding lay_image
  in_image out = rw outside (go (ltb (length m.image) (o + length ys)) refl)
    where
      outside : r.inside ≡ None
      outside = s.inside ∙ ap (λ (b : Bool). cond b (Some m.start) None) out

      r₁ : Replay
      r₁ = lay o ys None r

      m₁ : Laying
      m₁ = record { item = suc m.item; image = over m.image o ys; area = m.area; start = m.start; end = m.end; inside = m.inside; long = max m.long (o + length ys) }

      same₁ : o + length ys ≤ length m.image → Same r₁ m₁ p n
      same₁ h =
          let a = length_over m.image o ys in
          let b = s.fits in
          let l = written-long r.image o ys in
          let k = s.long in
          record {
            item = ap suc s.item;
            image = λ j. over-at m.image o ys h j ∙ laid_same o ys m.image r.image j (s.image j) ∙ sym (written_at r.image o ys j);
            long = omega arith;
            fits = omega arith;
            area = s.area;
            end = s.end;
            start = s.start;
            size = s.size;
            high = s.high;
            inside = sym outside ∙ s.inside;
          }

      go : (t : Bool) → ltb (length m.image) (o + length ys) ≡ t → Ending (replay_stored xs r₁) (area_end_behind r.end xs) (length m.image) (length m.area) (lay_all xs (cond t None (Some m₁)))
      go true e =
          let h = ltb-true (length m.image) (o + length ys) e in
          let l = written-long r.image o ys in
          image-short xs r₁ (area_end_behind r.end xs) (length m.image) (length m.area) (omega arith)
      go false e =
          subst (λ (i : ℕ). Ending (replay_stored xs r₁) (area_end_behind r.end xs) i (length m.area) (lay_all xs (Some m₁))) (length_over m.image o ys)
          (next r₁ m₁ p n (same₁ (ltb-false (length m.image) (o + length ys) e)) room place)

  in-part : m.inside ≡ true → o + length ys ≤ n → Ending (replay_stored xs (lay o ys r.inside r)) (area_end_behind r.end xs) (length m.image) (length m.area) (lay_all xs (lay_part o ys m))
  unfolding lay_part
  in-part within fit =
      rw within-part (rw fitting
      (subst (λ (a : ℕ). Ending (replay_stored xs r₁) (area_end_behind r.end xs) (length m.image) a (lay_all xs (Some m₁))) area-long (next r₁ m₁ p n same₁ room₁ place)))
    where
      within-part : r.inside ≡ Some m.start
      within-part = s.inside ∙ ap (λ (b : Bool). cond b (Some m.start) None) within

      bytes_in : ℕ
      bytes_in = m.end - m.start

      fitting : ltb bytes_in (o + length ys) ≡ false
      fitting = let e = s.size in le-ltb bytes_in (o + length ys) (omega arith)

      r₁ : Replay
      r₁ = lay o ys (Some m.start) r

      area₁ : Bytes
      area₁ = put_mid m.start bytes_in m.area (over (mid_of m.start bytes_in m.area) o ys)

      m₁ : Laying
      m₁ = record { item = suc m.item; image = m.image; area = area₁; start = m.start; end = m.end; inside = m.inside; long = m.long }

      area-long : length area₁ ≡ length m.area
      area-long = same_len_mid m.start bytes_in m.area (over (mid_of m.start bytes_in m.area) o ys) (length_over (mid_of m.start bytes_in m.area) o ys)

      room₁ : length r₁.area ≡ area_end_behind r.end xs
      room₁ =
          let l = written-long r.area (m.start + o) ys in
          let e = s.size in
          let f = s.end in
          let g = area-grows xs r.end in
          omega arith

      same₁ : Same r₁ m₁ p n
      same₁ =
          let l = area-long in
          let e = s.size in
          let h = s.high in
          record {
            item = ap suc s.item;
            image = s.image;
            long = s.long;
            fits = s.fits;
            area = λ j k.
                part-at m.area m.start bytes_in o ys (omega arith) (omega arith) j
                ∙ laid_same (m.start + o) ys m.area r.area j (s.area j (omega arith))
                ∙ sym (written_at r.area (m.start + o) ys j);
            end = s.end;
            start = s.start;
            size = s.size;
            high = omega arith;
            inside = sym within-part ∙ s.inside;
          }

  in_either : (m.inside ≡ true → o + length ys ≤ n) → Ending (replay_stored xs (lay o ys r.inside r)) (area_end_behind r.end xs) (length m.image) (length m.area) (lay_all xs (lay_bytes o ys m))
  unfolding lay_bytes
  in_either fit = go m.inside refl
    where
      go : (b : Bool) → m.inside ≡ b → Ending (replay_stored xs (lay o ys r.inside r)) (area_end_behind r.end xs) (length m.image) (length m.area) (lay_all xs (cond b (lay_part o ys m) (lay_image o ys m)))
      go true e = in-part e (fit e)
      go false e = in_image e

-- ---- a new array

module _ (o n : ℕ) (xs : List Stored) (r : Replay) (m : Laying) (p k : ℕ) (s : Same r m p k) (room : length r.area ≡ area_end_behind (part_at r.end + n) xs) (out : m.inside ≡ false)
    (place : InPlace o n m.inside xs) (next : Claim xs) where
  an-array : Ending (replay_stored xs (lay o (handle r.item) r.inside (with_replay_part o (part_at r.end + n) r))) (area_end_behind (part_at r.end + n) xs) (length m.image) (length m.area) (lay_all xs (lay_array o n m))
  unfolding lay_array
  an-array = go (ltb (length m.area) (part_at m.end + n)) refl
    where
      r₁ : Replay
      r₁ = with_replay_part o (part_at r.end + n) r

      m₁ : Laying
      m₁ = new_part n m

      outside : r.inside ≡ None
      outside = s.inside ∙ ap (λ (b : Bool). cond b (Some m.start) None) out

      same₁ : part_at m.end + n ≤ length m.area → Same r₁ m₁ o n
      same₁ h =
          let e = s.end in
          record {
            item = s.item;
            image = s.image;
            long = s.long;
            fits = s.fits;
            area = s.area;
            end = omega arith;
            start = ap (λ (b : Bool). cond b (part_at r.end) (start_of o r.parts)) (eq-eqb o o refl) ∙ ap part_at s.end;
            size = refl;
            high = h;
            inside = outside ∙ sym (ap (λ (b : Bool). cond b (Some (part_at m.end)) None) out);
          }

      go : (t : Bool) → ltb (length m.area) (part_at m.end + n) ≡ t
          → Ending (replay_stored xs (lay o (handle r.item) r.inside r₁)) (area_end_behind (part_at r.end + n) xs) (length m.image) (length m.area) (lay_all xs (cond t None (lay_image o (handle m.item) m₁)))
      go true e =
          let h = ltb-true (length m.area) (part_at m.end + n) e in
          let f = s.end in
          let g = area-grows xs (part_at r.end + n) in
          area-short xs (lay o (handle r.item) r.inside r₁) (part_at r.end + n) (area_end_behind (part_at r.end + n) xs) (length m.image) (length m.area) (omega arith) g
      go false e =
          subst (λ (i : ℕ). Ending (replay_stored xs (lay o (handle r.item) r.inside r₁)) (area_end_behind (part_at r.end + n) xs) (length m.image) (length m.area) (lay_all xs (lay_image o (handle i) m₁))) (sym s.item)
          (in_image o (handle r.item) xs r₁ m₁ o n (same₁ (ltb-false (length m.area) (part_at m.end + n) e)) room place next out)

-- ---- all of it

moved_same : {r : Replay} {m : Laying} {p n : ℕ} → Same r m p n → (i : Option ℕ) (b : Bool) → i ≡ cond b (Some m.start) None → Same (moved i r) (move_to b m) p n
moved_same s i b e = record {
  item = ap suc s.item;
  image = s.image;
  long = s.long;
  fits = s.fits;
  area = s.area;
  end = s.end;
  start = s.start;
  size = s.size;
  high = s.high;
  inside = e;
}

laid-all : (xs : List Stored) → Claim xs
unfolding big_endian
laid-all [] r m p n s room place = at-end r m p n s room place
laid-all (bytes_at o ys ∷ xs) r m p n s room place = in_either o ys xs r m p n s room place.1 (laid-all xs) place.0
laid-all (string_at o ∷ xs) r m p n s room place =
    subst (λ (i : ℕ). Ending (replay_stored xs (lay o (handle r.item) r.inside r)) (area_end_behind r.end xs) (length m.image) (length m.area) (lay_all xs (lay_bytes o (handle i) m))) (sym s.item)
    (in_either o (handle r.item) xs r m p n s room place.1 (laid-all xs) place.0)
laid-all (array_at o size k ∷ xs) r m p n s room place = an-array o (size * k) xs r m p n s room place.0 place.1 (laid-all xs)
laid-all (set_at o ∷ xs) r m p n s room place = laid-all xs _ (move_to true m) p n (moved_same s (Some (start_of o r.parts)) true (ap (λ (q : ℕ). Some (start_of q r.parts)) place.0 ∙ ap Some s.start)) room place.1
laid-all (go_back ∷ xs) r m p n s room place = laid-all xs _ (move_to false m) p n (moved_same s None false refl) room place

-- ---- from the beginning, over zeros

-- what replaying items in buffers of so many bytes says of their replay
pub record BuffersHold (q : Imaged) (image area : ℕ) (m : Laying) : Type 0 where
  pub is : q ≡ laid (image_bytes q) (area_bytes q)
  pub image_is : m.image ≡ padded image (image_bytes q)
  pub area_is : m.area ≡ padded area (area_bytes q)
  pub long : m.long ≡ length (image_bytes q)
  pub end : m.end ≡ length (area_bytes q)

abbrev pub LaysAs : Imaged → ℕ → ℕ → Option Laying → Type 0
LaysAs q image area None = q ≡ not_laid 13 0
LaysAs q image area (Some m) = BuffersHold q image area m

module _ (b : Buffers) (g : Globals) where
  abbrev xs : List Stored
  xs = map stored_of g.items

  abbrev e : ℕ
  e = area_after 0 g.items

  all-items : replay_stored xs (record { item = 0; image = replicate g.end 0; area = replicate e 0; end = 0; parts = []; inside = None }) ≡ replay g.end g.items
  all-items = replay-stored g.items _

  answer-by : (t : Option Laying) → Ending (replay g.end g.items) e b.image b.area t → LaysAs (replayed b g) b.image b.area t
  unfolding memory_of
  answer-by None h = go (ltb b.area e) (ltb b.image (length (replay g.end g.items).image)) h
    where
      go : (x y : Bool) → x || y ≡ true → cond x (not_laid 13 0) (cond y (not_laid 13 0) (laid (memory_of g).image (memory_of g).area)) ≡ not_laid 13 0
      go true y h = refl
      go false true h = refl
      go false false h = never h
  answer-by (Some m) h =
      let q : replayed b g ≡ laid (memory_of g).image (memory_of g).area = rw (le-ltb b.area e h.room, le-ltb b.image (length (replay g.end g.items).image) h.fits) in
      rw q (record { is = refl; image_is = h.image_is; area_is = h.area_is; long = h.long; end = h.end ∙ sym h.area_long })

  pub replayed-by : InPlace 0 0 false xs → LaysAs (replayed b g) b.image b.area (lay_all xs (laying_start g.end b.image b.area))
  unfolding laying_start
  replayed-by place = answer-by (lay_all xs (laying_start g.end b.image b.area)) (go (ltb b.image g.end) refl)
    where
      start₀ : Replay
      start₀ = record { item = 0; image = replicate g.end 0; area = replicate e 0; end = 0; parts = []; inside = None }

      m₀ : Laying
      m₀ = record { item = 0; image = zeros b.image; area = zeros b.area; start = 0; end = 0; inside = false; long = g.end }

      same₀ : g.end ≤ b.image → Same start₀ m₀ 0 0
      same₀ h = record {
        item = refl;
        image = λ j. zeros-at b.image j ∙ sym (zeros-at g.end j);
        long = length-replicate {A = ℕ} g.end 0;
        fits = let l = length-replicate {A = ℕ} b.image 0 in omega arith;
        area = λ j l. zeros-at b.area j ∙ sym (zeros-at e j);
        end = refl;
        start = refl;
        size = refl;
        high = omega arith;
        inside = refl;
      }

      room₀ : length start₀.area ≡ area_end_behind 0 xs
      room₀ = length-replicate {A = ℕ} e 0 ∙ sym (area-end g.items 0)

      go : (t : Bool) → ltb b.image g.end ≡ t → Ending (replay g.end g.items) e b.image b.area (lay_all xs (cond t None (Some m₀)))
      go true k =
          let l = ltb-true b.image g.end k in
          let n = length-replicate {A = ℕ} g.end 0 in
          rw (← all-items) (image-short xs start₀ e b.image b.area (omega arith))
      go false k =
          let l = ltb-false b.image g.end k in
          rw (← all-items)
          (subst (λ (z : ℕ). Ending (replay_stored xs start₀) z b.image b.area (lay_all xs (Some m₀))) (area-end g.items 0)
          (subst (λ (i : ℕ). Ending (replay_stored xs start₀) (area_end_behind 0 xs) i b.area (lay_all xs (Some m₀))) (length-replicate {A = ℕ} b.image 0)
          (subst (λ (a : ℕ). Ending (replay_stored xs start₀) (area_end_behind 0 xs) (length (zeros b.image)) a (lay_all xs (Some m₀))) (length-replicate {A = ℕ} b.area 0)
          (laid-all xs start₀ m₀ 0 0 (same₀ l) room₀ place))))
