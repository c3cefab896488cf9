-- Global and data lines, second half: globals, their first values, and data items.
use Rattle.std.specs.Prelude.{ℕ, ◌+◌, Bool, true, false, not, ◌||◌, cond, List, [], ◌∷◌, ◌++◌, map, ℤ, Float, Option, None, Some}
use Rattle.semantics.specs.Text.{Bytes, bytes, same, filter, is_none}
use Rattle.semantics.specs.Tree.{Ty, Ex, VarDecl, ConstVal, ElemKind, elem_of}
use Rattle.semantics.specs.Tree.Ty.{basic, ptr, array, tuple}
use Rattle.semantics.specs.Tree.ConstVal.{v_int, v_real, v_str}
use Rattle.semantics.specs.Tree.ElemKind.{k_byte, k_word, k_big, k_real, k_ptr}
use Rattle.semantics.specs.Sheet.{Located, Source, concat_map}
use Rattle.semantics.specs.Layout.{align_up, basic_size}
use Rattle.semantics.specs.Fold.{Result, bind, Names, fold_at0}
use Rattle.semantics.specs.Fold.Result.{ok, failed, refuse}
use Rattle.semantics.specs.Const.{Refusal, implements}
use Rattle.semantics.specs.Array.{ConstArray, const_array, const_word, const_byte, const_big, const_real, is_of_kind, lowest}

-- ---- data items

-- the values of an item, one after the other
pub data Values : Type 0 where
  byte_values : List ℕ → Values
  word_values : List ℤ → Values
  big_values : List ℤ → Values
  real_values : List Float → Values

-- an item at an offset; `set_item` moves writing into the array there, `back_item` returns
pub data Item : Type 0 where
  values_item : ℕ → Values → Item
  str_item : ℕ → Bytes → Item
  array_item : ℕ → ElemKind → ℕ → Item
  set_item : ℕ → Item
  back_item : Item

-- a string element; a number among strings leaves no item
abbrev pub str_element : ℕ → ConstVal → List Item
str_element off (v_int x) = []
str_element off (v_real x) = []
str_element off (v_str s) = str_item off s ∷ []

abbrev pub str_items : ℕ → List ConstVal → List Item
str_items off [] = []
str_items off (v ∷ vs) = str_element off v ++ str_items (off + 4) vs

-- one item for all elements, or one for each string
abbrev pub element_items : ElemKind → List ConstVal → List Item
element_items k_byte vs = values_item 0 (byte_values (map const_byte vs)) ∷ []
element_items k_word vs = values_item 0 (word_values (map const_word vs)) ∷ []
element_items k_big vs = values_item 0 (big_values (map const_big vs)) ∷ []
element_items k_real vs = values_item 0 (real_values (map const_real vs)) ∷ []
element_items k_ptr vs = str_items 0 vs

-- what fills an array: nothing where it has no values
abbrev pub contents : ℕ → ElemKind → List ConstVal → List Item
contents off k [] = []
contents off k (v ∷ vs) = set_item off ∷ (element_items k (v ∷ vs) ++ (back_item ∷ []))

abbrev pub array_items : ℕ → ConstArray → List Item
array_items off a = array_item off a.kind a.count ∷ contents off a.kind a.values

-- the item follows the value; the type decides only between big and word
abbrev pub value_item : ℕ → Ty → ConstVal → Item
value_item off t (v_int x) = values_item off (cond (is_of_kind k_big t) (big_values (x ∷ [])) (word_values (lowest 31 x ∷ [])))
value_item off t (v_real x) = values_item off (real_values (x ∷ []))
value_item off t (v_str s) = str_item off s

-- ---- first values

-- no value, a folded value, a constant array, or one that is left pending
pub data Init : Type 0 where
  no_init : Init
  const_init : ConstVal → Init
  array_init : ConstArray → Init
  pending_init : Init

abbrev pub array_value : Result ConstArray → Result Init
array_value (ok a) = ok (array_init a)
array_value failed = ok pending_init
array_value (refuse r) = refuse r

-- a value that folds, or else a constant array
abbrev pub first_value : Result ConstVal → Result ConstArray → Result Init
first_value (ok v) a = ok (const_init v)
first_value failed a = array_value a
first_value (refuse r) a = refuse r

-- that of a `var` line of type t; of its types only an array type declares what the elements are
abbrev pub init_of : Names → Ty → Option Ex → Result Init
init_of ns t None = ok no_init
init_of ns t (Some e) = first_value (fold_at0 ns e) (const_array ns (elem_of t) e)

abbrev pub init_items : ℕ → Ty → Init → List Item
init_items off t no_init = []
init_items off t (const_init v) = value_item off t v ∷ []
init_items off t (array_init a) = array_items off a
init_items off t pending_init = []

-- ---- the globals that `var` lines declare

-- lines outside modules and in the implemented one
abbrev pub laid_vars : Source → List (Located VarDecl)
laid_vars s = filter (λ (v : Located VarDecl). is_none v.within || implements s.implement v.within) s.vars

-- `nil` has no place
abbrev pub laid_names : List Bytes → List Bytes
laid_names ns = filter (λ (n : Bytes). not (same n (bytes "nil"))) ns

-- a global with its type and first value
pub record Declared : Type 0 where
  pub name : Bytes
  pub ty : Ty
  pub first : Init

-- a value that is refused, and with it the sheet, leaves no first value; `init_of` never fails
abbrev pub or_no_init : Result Init → Init
or_no_init (ok i) = i
or_no_init failed = no_init
or_no_init (refuse r) = no_init

abbrev pub declared_by : Names → Located VarDecl → List Declared
declared_by ns v =
    let d = v.it in
    map (λ (n : Bytes). record { name = n; ty = d.ty; first = or_no_init (init_of ns d.ty d.init) }) (laid_names d.names)

abbrev pub declared_in : Names → Source → List Declared
declared_in ns s = concat_map (declared_by ns) (laid_vars s)

-- ---- refusals 8 to 12 at `var` lines

abbrev pub none_of : {A : Type 0} → List A → Bool
none_of [] = true
none_of (x ∷ xs) = false

-- a value that is folded where no name is laid out
abbrev pub plain_init : Names → Option Ex → Result Init
plain_init ns None = ok no_init
plain_init ns (Some e) = bind (fold_at0 ns e) (λ (v : ConstVal). ok (const_init v))

-- a value is folded once per line, also where no name is laid out; arrays are looked at only for a name
abbrev pub var_value : Names → VarDecl → Result Init
var_value ns d = cond (none_of (laid_names d.names)) (plain_init ns d.init) (init_of ns d.ty d.init)

abbrev pub refused_by : {A : Type 0} → ℕ → Result A → Option Refusal → Option Refusal
refused_by k (ok a) o = o
refused_by k failed o = o
refused_by k (refuse r) o = Some (record { number = r; line = k })

-- the first line that is refused
abbrev pub vars_refused : Names → List (Located VarDecl) → Option Refusal
vars_refused ns [] = None
vars_refused ns (v ∷ vs) = refused_by v.line (var_value ns v.it) (vars_refused ns vs)

-- ---- places

-- big and real take 8 bytes at a multiple of 8, all else 4
abbrev pub global_size : Ty → ℕ
global_size (basic b) = basic_size b
global_size ptr = 4
global_size (array t) = 4
global_size (tuple ts) = 4

pub record Global : Type 0 where
  pub name : Bytes
  pub offset : ℕ
  pub ty : Ty

-- places in order, the end of allocation, names with pending values, and items
pub record Globals : Type 0 where
  pub places : List Global
  pub end : ℕ
  pub pends : List Bytes
  pub items : List Item

abbrev pub no_globals : Globals
no_globals = record { places = []; end = 0; pends = []; items = [] }

abbrev pub place_of : Bytes → List Global → Option ℕ
place_of n [] = None
place_of n (g ∷ gs) = cond (same n g.name) (Some g.offset) (place_of n gs)

abbrev pub pend_of : Bytes → Init → List Bytes
pend_of n no_init = []
pend_of n (const_init v) = []
pend_of n (array_init a) = []
pend_of n pending_init = n ∷ []

abbrev pub with_first_value : ℕ → Declared → Globals → Globals
with_first_value off d g = record { places = g.places; end = g.end; pends = g.pends ++ pend_of d.name d.first; items = g.items ++ init_items off d.ty d.first }

abbrev pub new_offset : Ty → ℕ → ℕ
new_offset t end = align_up (global_size t) end

abbrev pub new_place : Declared → Globals → Globals
new_place d g =
    let off = new_offset d.ty g.end in
    record { places = g.places ++ (record { name = d.name; offset = off; ty = d.ty } ∷ []); end = off + global_size d.ty; pends = g.pends; items = g.items }

-- a name met again keeps its place
abbrev pub declare_at : Declared → Option ℕ → Globals → Globals
declare_at d (Some off) g = with_first_value off d g
declare_at d None g = with_first_value (new_offset d.ty g.end) d (new_place d g)

abbrev pub globals_from : Globals → List Declared → Globals
globals_from g [] = g
globals_from g (d ∷ ds) = globals_from (declare_at d (place_of d.name g.places) g) ds

abbrev pub globals : Names → Source → Globals
globals ns s = globals_from no_globals (declared_in ns s)
