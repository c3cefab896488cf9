-- Laws of one step of a replay.
use Prim.Native.Nat.{ℕ, suc, ◌+◌, ◌-◌, ◌≤◌, ◌<◌, max}
use mathlib.Core.Path.{◌≡◌, refl, sym, ap, ◌∙◌}
use mathlib.Core.Bool.{Bool, true, false, cond}
use Rattle.std.specs.Prelude.{Option, None, Some}
use native.Mathlib.Numerals.{add-one}
use native.Mathlib.Omega.{arith}
use lib.Dec.{ltb}
use lib.ListN.{length}
use borrow.Author.Tests.{lt-ltb, le-ltb, ltb-true, ltb-false}
use borrow.Rule.Slice.PartMut.{mid_of, put_mid, mid_len, same_len_mid}
use Rattle.semantics.specs.Text.{Bytes, big_endian}
use Rattle.semantics.specs.Image.{handle, part_at}
use Rattle.write.specs.Wrote.{Wrote, over}
use Rattle.write.proofs.Wrote.{wrote-length, wrote_as}
use Rattle.stored.specs.Laying.{Laying, lay_image, lay_part, lay_bytes, lay_array, new_part, move_to}
use Rattle.laying.specs.declared.State.{State}
use Rattle.laying.specs.Steps.{laying_of, seen_laying, MoreFits, Lays, Went, Moved, Outgrown}

pub went-out : {n p long : ℕ} {s r : State} → n < p → Outgrown s r → Went n p long s r
went-out {n} {p} h o = record { is = λ im ar. rw (lt-ltb n p h) (o.is im ar); start = o.start; end = o.end; item = omega (arith, o.item) }

pub moved-lays : {inside : Bool} {s r : State} (im ar : Bytes) → MoreFits s (length ar) → Moved inside s r → Lays (Some (move_to inside (laying_of s im ar))) s r im ar
moved-lays im ar h m = record { is = m.is im ar; low = omega (arith, m.start, m.end, h.low); high = omega (arith, m.end, h.high); item = m.item }

-- ---- bytes laid

module _ (o : ℕ) (ys : Bytes) (im ar : Bytes) (s r : State) {p : ℕ} where
  -- in the image
  image-laid : {im' : Bytes} → Wrote im o ys im' p → Went (length im') p (max s.long p) s r → seen_laying r im' ar ≡ lay_image o ys (laying_of s im ar)
  unfolding lay_image laying_of
  image-laid {im'} w g = g.is im' ar ∙ go (ltb (length im) (o + length ys)) refl
    where
      long : length im' ≡ length im
      long = wrote-length w

      go : (t : Bool) → ltb (length im) (o + length ys) ≡ t
          → cond {A = Option Laying} (ltb (length im') p) None (Some (record { item = suc s.item; image = im'; area = ar; start = s.start; end = s.end; inside = s.inside; long = max s.long p }))
          ≡ cond {A = Option Laying} t None (Some (record { item = suc s.item; image = over im o ys; area = ar; start = s.start; end = s.end; inside = s.inside; long = max s.long (o + length ys) }))
      go true e =
          let h = ltb-true (length im) (o + length ys) e in
          let l = long in
          rw (lt-ltb (length im') p (omega (arith, w.place)))
      go false e =
          let h = ltb-false (length im) (o + length ys) e in
          let l = long in
          let q : p ≡ o + length ys = omega (arith, w.place) in
          rw (le-ltb (length im') p (omega arith))
          (λ i. Some (record { item = suc s.item; image = w.bytes i; area = ar; start = s.start; end = s.end; inside = s.inside; long = max s.long (q i) }))

  -- in the newest array's part
  part-laid : {part : Bytes} → s.end ≤ length ar → Wrote (mid_of s.start (s.end - s.start) ar) o ys part p → Went (s.end - s.start) p s.long s r
      → seen_laying r im (put_mid s.start (s.end - s.start) ar part) ≡ lay_part o ys (laying_of s im ar)
  unfolding lay_part laying_of
  part-laid {part} fits w g = g.is im (put_mid s.start n ar part) ∙ go (ltb n (o + length ys)) refl
    where
      n : ℕ
      n = s.end - s.start

      mid : Bytes
      mid = mid_of s.start n ar

      long : length mid ≡ n
      long = mid_len s.start s.end ar fits

      go : (t : Bool) → ltb n (o + length ys) ≡ t
          → cond {A = Option Laying} (ltb n p) None (Some (record { item = suc s.item; image = im; area = put_mid s.start n ar part; start = s.start; end = s.end; inside = s.inside; long = s.long }))
          ≡ cond {A = Option Laying} t None (Some (record { item = suc s.item; image = im; area = put_mid s.start n ar (over mid o ys); start = s.start; end = s.end; inside = s.inside; long = s.long }))
      go true e =
          let h = ltb-true n (o + length ys) e in
          let l = long in
          rw (lt-ltb n p (omega (arith, w.place)))
      go false e =
          let h = ltb-false n (o + length ys) e in
          let l = long in
          rw (le-ltb n p (omega (arith, w.place)))
          (λ i. Some (record { item = suc s.item; image = im; area = put_mid s.start n ar (w.bytes i); start = s.start; end = s.end; inside = s.inside; long = s.long }))

module _ (o : ℕ) (ys : Bytes) (im ar : Bytes) (s r : State) {p : ℕ} (ready : MoreFits s (length ar)) where
  pub lays-image : {im' : Bytes} → s.inside ≡ false → Wrote im o ys im' p → Went (length im') p (max s.long p) s r → Lays (lay_bytes o ys (laying_of s im ar)) s r im' ar
  unfolding lay_bytes laying_of
  lays-image {im'} out w g =
      let a = g.start in
      let b = g.end in
      let c = ready.low in
      let d = ready.high in
      record {
        is = image-laid o ys im ar s r w g ∙ sym (ap (λ (b : Bool). cond b (lay_part o ys (laying_of s im ar)) (lay_image o ys (laying_of s im ar))) out);
        low = omega arith;
        high = omega arith;
        item = g.item;
      }

  pub lays-part : {part : Bytes} → s.inside ≡ true → Wrote (mid_of s.start (s.end - s.start) ar) o ys part p → Went (s.end - s.start) p s.long s r
      → Lays (lay_bytes o ys (laying_of s im ar)) s r im (put_mid s.start (s.end - s.start) ar part)
  unfolding lay_bytes laying_of
  lays-part {part} within w g =
      let a = g.start in
      let b = g.end in
      let c = ready.low in
      let d = ready.high in
      let l = same_len_mid s.start (s.end - s.start) ar part (wrote-length w) in
      record {
        is = part-laid o ys im ar s r d w g ∙ sym (ap (λ (b : Bool). cond b (lay_part o ys (laying_of s im ar)) (lay_image o ys (laying_of s im ar))) within);
        low = omega arith;
        high = omega arith;
        item = g.item;
      }

-- a handle is its item's number plus 1
pub handled : (k : ℕ) {d : Bytes} {a : ℕ} {e : Bytes} {b : ℕ} → Wrote d a (big_endian 4 (k + 1)) e b → Wrote d a (handle k) e b
handled k w = wrote_as (ap (big_endian 4) (add-one k)) w

-- ---- an array

-- the state with the new part
abbrev pub with_part_at : State → ℕ → ℕ → State
with_part_at s a k = record { item = s.item; start = a; end = a + k; inside = s.inside; long = s.long; full = false }

module _ (off n : ℕ) (im ar : Bytes) (s r : State) (ready : MoreFits s (length ar)) where
  pub array-out : length ar < part_at s.end + n → Outgrown s r → Lays (lay_array off n (laying_of s im ar)) s r im ar
  unfolding lay_array laying_of
  array-out h o =
      let a = o.start in
      let b = o.end in
      let c = ready.low in
      let d = ready.high in
      record { is = rw (lt-ltb (length ar) (part_at s.end + n) h) (o.is im ar); low = omega arith; high = omega arith; item = omega (arith, o.item) }

  pub array-in : {a k p : ℕ} {im' : Bytes} → a ≡ part_at s.end → k ≡ n → a + k ≤ length ar → Wrote im off (handle s.item) im' p
      → Went (length im') p (max s.long p) (with_part_at s a k) r → Lays (lay_array off n (laying_of s im ar)) s r im' ar
  unfolding lay_array laying_of
  array-in {a} {k} ha hk h w g =
      let b = g.start in
      let c = g.end in
      let same : laying_of (with_part_at s a k) im ar ≡ new_part n (laying_of s im ar) =
      λ i. record { item = s.item; image = im; area = ar; start = ha i; end = ha i + hk i; inside = s.inside; long = s.long } in
      record {
        is = rw (le-ltb (length ar) (part_at s.end + n) (omega arith)) (image-laid off (handle s.item) im ar (with_part_at s a k) r w g ∙ ap (lay_image off (handle s.item)) same);
        low = omega arith;
        high = omega arith;
        item = g.item;
      }
