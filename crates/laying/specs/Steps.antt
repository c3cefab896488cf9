-- The state of a replay in the code, and what each step makes of it and of the buffers.
use Rattle.std.specs.Prelude.{ℕ, suc, ◌+◌, ◌≤◌, ◌<◌, ◌≡◌, Bool, false, cond, length, ltb, Option, None, Some}
use Rattle.semantics.specs.Text.{Bytes}
use Rattle.stored.specs.Laying.{Laying, move_to}
use Rattle.laying.specs.declared.State.{State}

unfoldable pub laying_of : State → Bytes → Bytes → Laying
laying_of s image area = record { item = s.item; image = image; area = area; start = s.start; end = s.end; inside = s.inside; long = s.long }

-- none where something did not fit
unfoldable pub seen_laying : State → Bytes → Bytes → Option Laying
seen_laying s image area = cond s.full None (Some (laying_of s image area))

-- a state in which more can be laid, with an area of so many bytes
pub record MoreFits (s : State) (area : ℕ) : Type 0 where
  pub fitted : s.full ≡ false
  pub low : s.start ≤ s.end
  pub high : s.end ≤ area
  pub item : s.item < 9223372036854775808

-- the state r, with image and area, is q; it follows s. Where q is none the bytes of both are free: `replay` zeroes them.
pub record Lays (q : Option Laying) (s r : State) (image area : Bytes) : Type 0 where
  pub is : seen_laying r image area ≡ q
  pub low : r.start ≤ r.end
  pub high : r.end ≤ length area
  pub item : r.item ≤ s.item + 1

-- s with one item more, whose bytes end at p of n; outgrown where p lies past n
pub record Went (n p long : ℕ) (s r : State) : Type 0 where
  pub is : (image area : Bytes) → seen_laying r image area ≡ cond (ltb n p) None (Some (record { item = suc s.item; image = image; area = area; start = s.start; end = s.end; inside = s.inside; long = long }))
  pub start : r.start ≡ s.start
  pub end : r.end ≡ s.end
  pub item : r.item ≤ s.item + 1

-- s with one item more, and writing in the newest array or not
pub record Moved (inside : Bool) (s r : State) : Type 0 where
  pub is : (image area : Bytes) → seen_laying r image area ≡ Some (move_to inside (laying_of s image area))
  pub start : r.start ≡ s.start
  pub end : r.end ≡ s.end
  pub item : r.item ≤ s.item + 1

-- s outgrown
pub record Outgrown (s r : State) : Type 0 where
  pub is : (image area : Bytes) → seen_laying r image area ≡ None
  pub start : r.start ≡ s.start
  pub end : r.end ≡ s.end
  pub item : r.item ≡ s.item
