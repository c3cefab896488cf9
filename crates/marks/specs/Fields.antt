-- Fields whose pointers are marked in the map that stands in the working space.
use Rattle.std.specs.Prelude.{ℕ, ◌≡◌, List, Option}
use Rattle.semantics.specs.Text.{Bytes}
use Rattle.semantics.specs.Tree.{Ty, Fd}
use Rattle.semantics.specs.Layout.{place_line, place, pointers_of}
use Rattle.maps.specs.Maps.{Marks}

-- from off to q by one line
pub record LineMarked (ty : Option Ty) (ns : List Bytes) (size off q : ℕ) (t u : Bytes) : Type 0 where
  pub end : q ≡ (place_line ty ns off).end
  pub marks : Marks size (pointers_of (place_line ty ns off).placed) t u

-- and by lines
pub record AllMarked (fs : List Fd) (size off q : ℕ) (t u : Bytes) : Type 0 where
  pub end : q ≡ (place off fs).end
  pub marks : Marks size (pointers_of (place off fs).placed) t u
