-- The rows of items, and what those of a literal's elements need.
use Rattle.std.specs.Prelude.{ℕ, ◌≤◌, ◌<◌, List, length}
use Rattle.semantics.specs.Text.{Bytes}
use Rattle.semantics.specs.Tree.{TypeKey}
use Rattle.semantics.specs.Sheet.{concat_map}
use Rattle.semantics.specs.Global.{Item}
use Rattle.semantics.specs.Listing.{item_row}
use Rattle.values.specs.Values.{Within}
use Rattle.placements.specs.Placements.{placement_at, slot_at}

unfoldable pub item_rows : (TypeKey → ℕ) → List Item → Bytes
item_rows id is = concat_map (item_row id) is

-- a working space t that holds a literal of `count` values, with the strings among them
pub record LiteralIn (t : Bytes) (count : ℕ) : Type 0 where
  pub long : 62464 ≤ length t
  pub few : count ≤ 1024
  pub strings : (i : ℕ) → i < count → Within (length t) (slot_at t (placement_at t i))
