-- First values of `var` lines, as the code answers them.
use Rattle.std.specs.Prelude as P
use Rattle.std.specs.Prelude.{ℕ, ◌≡◌, Option, None, Some, Ok, Err}
use Rattle.semantics.specs.Text.{Bytes}
use Rattle.semantics.specs.Fold.{Result}
use Rattle.semantics.specs.Fold.Result.{ok, failed, refuse}
use Rattle.semantics.specs.Global.{Init, no_init, const_init, array_init, pending_init}
use Rattle.values.specs.Values.{value_in, At}
use Rattle.leaf.specs.Folds.{ExLine}
use Rattle.placements.specs.Placements.{Keeps}
use Rattle.global_table.specs.Table.{VarLine}
use Rattle.arrays.specs.declared.NoItem.{NoItem}
use Rattle.arrays.specs.Arrays.{no_item, array_in, ArrayStands}
use Rattle.vars.specs.declared.First.{First}
use Rattle.vars.specs.declared.First.TheVariants.{Value, Array}

-- ---- answers

-- one that fails is taken as pending
abbrev pub or_pending : Result Init → Result Init
or_pending (ok i) = ok i
or_pending failed = ok pending_init
or_pending (refuse r) = refuse r

-- strings and the values of a literal stand in the working space t
abbrev pub first_in : Bytes → First → Init
first_in t (Value v) = const_init (value_in t v)
first_in t (Array a) = array_init (array_in t a)

abbrev pub init_in : Bytes → P.Result (Option First) NoItem → Result Init
init_in t (Ok None) = ok no_init
init_in t (Ok (Some x)) = ok (first_in t x)
init_in t (Err e) = or_pending (no_item e)

-- where the strings of a value stand
abbrev pub FirstStands : Bytes → First → Type 0
FirstStands t (Value v) = At 49152 v
FirstStands t (Array a) = ArrayStands t a

abbrev pub InitStands : Bytes → P.Result (Option First) NoItem → Type 0
InitStands t (Ok None) = Unit {0}
InitStands t (Ok (Some x)) = FirstStands t x
InitStands t (Err e) = Unit {0}

-- t has become u, where x is the result r
pub record Inits (t : Bytes) (r : Result Init) (x : P.Result (Option First) NoItem) (u : Bytes) : Type 0 where
  pub result : init_in u x ≡ r
  pub stands : InitStands u x
  pub keeps : Keeps 16384 49152 t u

-- ---- lines

-- line r is a `var` line, and has its value in line q
pub record Valued (s : Bytes) (r q : ℕ) : Type 0 where
  pub line : VarLine s r
  pub value : ExLine s q
