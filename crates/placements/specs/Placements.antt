-- A literal's placements and values in the working space.
-- From 11264 on stands a byte for each of 1,024 indices: the element, from 1, that gave it its value last, and 0 where none did.
-- From 12288 on stand slots, 16 bytes apart: of the filler, and of each element from 1.
use Rattle.std.specs.Prelude.{ℕ, zero, suc, ◌+◌, ◌*◌, ◌^◌, ◌≤◌, ◌<◌, ◌≡◌, Bool, cond, ◌&&◌, List, [], ◌∷◌, ◌⊎◌, leb, ltb, eqb, length, get_or, Option, None, Some, Ok, Err}
use Rattle.semantics.specs.Text.{Bytes, any}
use Rattle.semantics.specs.Tree as Tree
use Rattle.semantics.specs.Tree.ConstVal.{v_int, v_real, v_str}
use Rattle.semantics.specs.Fold.{Result}
use Rattle.semantics.specs.Fold.Result.{ok, failed}
use Rattle.semantics.specs.Array.{Filled, value_at, filler, outside}
use Rattle.values.specs.declared.ConstVal.{ConstVal}
use Rattle.values.specs.declared.ConstVal.TheVariants.{Int, Real, Str}
use Rattle.values.specs.Values.{value_in, Outcome, answered}
use Rattle.slots.specs.Slots.{slot_of}
use Rattle.placements.specs.declared.Extent.{Extent}

unfoldable pub placement_at : Bytes → ℕ → ℕ
placement_at t i = get_or t (11264 + i) 0

-- the slot of the filler, 0, or of element j from 1
unfoldable pub slot_at : Bytes → ℕ → ConstVal
slot_at t j = slot_of t (12288 + 16 * j)

unfoldable pub element_in : Bytes → ℕ → Tree.ConstVal
element_in t j = value_in t (slot_at t j)

-- `count` values from index i on
unfoldable pub values_in : Bytes → ℕ → ℕ → List Tree.ConstVal
values_in t i zero = []
values_in t i (suc n) = element_in t (placement_at t i) ∷ values_in t (suc i) n

-- ---- what changes, and what does not

-- u is as long as t, and holds the same bytes below 11264 and from a up to b
pub record Keeps (a b : ℕ) (t u : Bytes) : Type 0 where
  pub long : length u ≡ length t
  pub below : (j : ℕ) → j < 11264 → get_or u j 0 ≡ get_or t j 0
  pub above : (j : ℕ) → a ≤ j → j < b → get_or u j 0 ≡ get_or t j 0

-- indices l to h of the table name e, as far as it goes, and nothing else has changed
pub record SpanSet (t : Bytes) (l h e : ℕ) (u : Bytes) : Type 0 where
  pub long : length u ≡ length t
  pub at : (i : ℕ) → i < 1024 → placement_at u i ≡ cond (leb l i && leb i h) e (placement_at t i)
  pub others : (j : ℕ) → (j < 11264) ⊎ (12288 ≤ j) → get_or u j 0 ≡ get_or t j 0

-- ---- a literal so far

-- a string stands between 49152 and top
abbrev pub StringStands : ℕ → ConstVal → Type 0
StringStands top (Int z) = Unit {0}
StringStands top (Real x) = Unit {0}
StringStands top (Str p l) = (49152 ≤ p) × (p + l ≤ top) × (l ≤ 256)

-- the value that an entry of the table names, where v is the filler
abbrev pub value_named : Bytes → Tree.ConstVal → ℕ → Tree.ConstVal
value_named t v zero = v
value_named t v (suc j) = element_in t (suc j)

-- the working space t holds what f is after k elements, with their strings below top
pub record Filling (t : Bytes) (top k next reach : ℕ) (f : Filled) : Type 0 where
  pub next-is : next ≡ f.next_index
  pub reach-is : reach ≡ f.reach
  pub low : reach ≤ 2 ^ 63
  pub ends : (n : ℕ) → any (outside n) f.placements ≡ ltb n reach
  pub known : (i : ℕ) → i < 1024 → placement_at t i ≤ k
  pub values : (i : ℕ) → i < 1024 → (v : Tree.ConstVal) → value_at f.placements v i ≡ value_named t v (placement_at t i)
  pub fills : element_in t 0 ≡ filler f.wildcard
  pub strings : (j : ℕ) → j ≤ k → StringStands top (slot_at t j)

-- the result r is a literal that t holds
pub record LiteralSoFar (t : Bytes) (top k next reach : ℕ) (r : Result Filled) : Type 0 where
  pub literal : Filled
  pub result : r ≡ ok literal
  pub filling : Filling t top k next reach literal

-- what placing answers where its result is r: none for a negative index
abbrev pub Goes : Bytes → ℕ → ℕ → Option Extent → Result Filled → Type 0
Goes t top k (Some x) r = LiteralSoFar t top k x.next x.reach r
Goes t top k None r = r ≡ failed

-- and what a step answers that folds as well: where a value fails or is too long the literal ends
abbrev pub Step : Bytes → ℕ → ℕ → Outcome (Option Extent) → Result Filled → Type 0
Step t top k (Ok x) r = Goes t top k x r
Step t top k (Err e) r = r ≡ answered (Err e)

-- t has become u by placing the value of element e: r is what `act` gives of it
pub record Places (t : Bytes) (e : ℕ) (x : Extent) (act : Tree.ConstVal → Filled → Result Filled) (r : Option Extent) (u : Bytes) : Type 0 where
  pub keeps : (b : ℕ) → Keeps 12288 b t u
  pub step : (top k : ℕ) (f : Filled) → 0 < e → e ≤ k → k ≤ 16 → Filling t top k x.next x.reach f → Goes u top k r (act (element_in t e) f)

-- ---- kinds of values

-- 1 an integer, 2 a real, 3 a string
abbrev pub value_kind : Tree.ConstVal → ℕ
value_kind (v_int z) = 1
value_kind (v_real x) = 2
value_kind (v_str s) = 3

abbrev pub has_kind : ℕ → Tree.ConstVal → Bool
has_kind k v = eqb (value_kind v) k
