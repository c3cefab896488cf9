-- Constant arrays, as the code answers them.
use Rattle.std.specs.Prelude as P
use Rattle.std.specs.Prelude.{ℕ, ◌-◌, ◌≤◌, ◌<◌, ◌≡◌, [], get_or, Option, Ok, Err, IfSome, option_map}
use Rattle.semantics.specs.Text.{Bytes, or_else}
use Rattle.semantics.specs.Tree.{Ty, MaybeEx}
use Rattle.semantics.specs.Form.{number_of, maybe_ex, ty_of, perhaps_at}
use Rattle.semantics.specs.Fold.{Result, bind}
use Rattle.semantics.specs.Fold.Result.{ok, failed, refuse}
use Rattle.semantics.specs.Array.{ConstArray, Filled, literal_size, measured}
use Rattle.codes.specs.Kinds.{element_kind}
use Rattle.lines.specs.Lines.{read_at, nodes_in, form_at}
use Rattle.sizes.specs.Sizes.{type_at, TypeLine}
use Rattle.leaf.specs.Folds.{ExLine}
use Rattle.placements.specs.Placements.{placement_at, slot_at, values_in, Keeps, StringStands, Filling}
use Rattle.names.specs.Table.{names_in}
use Rattle.literals.specs.Literals.{els_at, LiteralLine, above}
use Rattle.arrays.specs.declared.Arrayed.{Arrayed}
use Rattle.arrays.specs.declared.Arrayed.TheVariants.{Alloc, Literal}
use Rattle.arrays.specs.declared.NoItem.{NoItem}
use Rattle.arrays.specs.declared.NoItem.TheVariants.{Pending, LongString, LongAlloc, NegativeAlloc, OutsideLiteral, LongLiteral}
use Rattle.values.specs.declared.NoValue.{NoValue}
use Rattle.values.specs.declared.NoValue.TheVariants as N

-- ---- answers

-- what a fold without a value leaves
abbrev pub item_of : NoValue → NoItem
item_of N.Failed = Pending
item_of N.LongString = LongString

-- as the definitions have it: pending, or refused by 8 to 12
abbrev pub no_item : {A : Type 0} → NoItem → Result A
no_item Pending = failed
no_item LongString = refuse 8
no_item LongAlloc = refuse 9
no_item NegativeAlloc = refuse 10
no_item OutsideLiteral = refuse 11
no_item LongLiteral = refuse 12

-- the values of a literal stand in the working space t
abbrev pub array_in : Bytes → Arrayed → ConstArray
array_in t (Alloc k n) = record { kind = element_kind k; count = n; values = [] }
array_in t (Literal k n) = record { kind = element_kind k; count = n; values = values_in t 0 n }

abbrev pub arrayed_in : Bytes → P.Result Arrayed NoItem → Result ConstArray
arrayed_in t (Ok x) = ok (array_in t x)
arrayed_in t (Err e) = no_item e

-- a literal has at most 1,024 values, and their strings stand on the stack
abbrev pub ValuesStand : Bytes → ℕ → Type 0
ValuesStand t n = (n ≤ 1024) × ((i : ℕ) → i < n → StringStands (above 16) (slot_at t (placement_at t i)))

-- what stands in t for an array: the values of a literal
abbrev pub ArrayStands : Bytes → Arrayed → Type 0
ArrayStands t (Alloc k n) = Unit {0}
ArrayStands t (Literal k n) = ValuesStand t n

abbrev pub ResultStands : Bytes → P.Result Arrayed NoItem → Type 0
ResultStands t (Ok x) = ArrayStands t x
ResultStands t (Err e) = Unit {0}

-- x is the result r, with its values in t
pub record ArrayResult (t : Bytes) (r : Result ConstArray) (x : P.Result Arrayed NoItem) : Type 0 where
  pub result : arrayed_in t x ≡ r
  pub stands : ResultStands t x

-- and t has become u
pub record ArrayAnswers (t : Bytes) (r : Result ConstArray) (x : P.Result Arrayed NoItem) (u : Bytes) : Type 0 where
  pub array : ArrayResult u r x
  pub keeps : Keeps 16384 49152 t u

-- ---- lines

-- the type of line r, none for 0
abbrev pub type_of : Bytes → ℕ → Option Ty
type_of s r = ty_of (perhaps_at (nodes_in s) r)

-- the type of the line that declares one
abbrev pub declared_type : Bytes → Option ℕ → Option Ty
declared_type s = option_map (type_at s)

-- SIZE and TY of an `ex,lit` line
abbrev pub lit_size : Bytes → ℕ → MaybeEx
lit_size s r = maybe_ex (perhaps_at (nodes_in s) (number_of (get_or (read_at s (r - 1)).fields 0 [])))

abbrev pub own_type : Bytes → ℕ → Option Ty
own_type s r = type_of s (number_of (get_or (read_at s (r - 1)).fields 1 []))

-- the element type of an `alloc` line
abbrev pub alloc_type : Bytes → Option ℕ → ℕ → Ty
alloc_type s declared r = or_else (type_at s (number_of (get_or (read_at s (r - 1)).fields 1 []))) (declared_type s declared)

-- what is declared is a `ty` line
abbrev pub DeclaredElement : Bytes → Option ℕ → Type 0
DeclaredElement s declared = IfSome declared (TypeLine s)

-- line r is an `ex` line, for a global whose type may declare its elements' type in a line
pub record ArrayLine (s : Bytes) (declared : Option ℕ) (r : ℕ) : Type 0 where
  pub line : ExLine s r
  pub declares : DeclaredElement s declared

-- and an `ex,alloc` line, form 17
pub record AllocLine (s : Bytes) (declared : Option ℕ) (r : ℕ) : Type 0 where
  pub array : ArrayLine s declared r
  pub form : form_at s (r - 1) ≡ 17

-- line r is an `ex,lit` line, for such a global
pub record DeclaredLiteral (s : Bytes) (declared : Option ℕ) (r : ℕ) : Type 0 where
  pub literal : LiteralLine s r
  pub declares : DeclaredElement s declared

-- and has `count` values
pub record Counted (s : Bytes) (declared : Option ℕ) (r count : ℕ) : Type 0 where
  pub lit : DeclaredLiteral s declared r
  pub few : count ≤ 1024

-- t has become u, where x is what the literal of line r is whose elements t holds
pub record Sized (s t : Bytes) (m : ℕ) (declared : Option ℕ) (r reach : ℕ) (x : P.Result Arrayed NoItem) (u : Bytes) : Type 0 where
  pub answers : (k next : ℕ) (f : Filled) → k ≤ 16 → Filling t (above 16) k next reach f → ArrayResult u (bind (literal_size (names_in s t m) (lit_size s r) f) (measured (declared_type s declared) (own_type s r) (els_at s r) f)) x
  pub keeps : Keeps 16384 49152 t u
