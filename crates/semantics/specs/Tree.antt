-- What lines say, with each reference resolved to what it names: types, expressions, elements, fields, cases, declarations.
use Rattle.std.specs.Prelude.{ℕ, Bool, true, false, List, [], ◌∷◌, ℤ, Float, Option, None, Some}
use Rattle.semantics.specs.Text.{Bytes}

-- ---- types

pub data Basic : Type 0 where
  int byte big real string : Basic

-- `ptr` is every type that has no form of its own
mutual
  pub data Ty : Type 0 where
    basic : Basic → Ty
    ptr : Ty
    array : Ty → Ty
    tuple : Tys → Ty

  pub data Tys : Type 0 where
    no_tys : Tys
    and_ty : Ty → Tys → Tys

-- the basic type that a type is
abbrev pub basic_of : Ty → Option Basic
basic_of (basic b) = Some b
basic_of ptr = None
basic_of (array t) = None
basic_of (tuple ts) = None

-- an array type's element type
abbrev pub elem_of : Ty → Option Ty
elem_of (basic b) = None
elem_of ptr = None
elem_of (array t) = Some t
elem_of (tuple ts) = None

-- ---- expressions

-- a folded value is an integer, a real or a string
pub data ConstVal : Type 0 where
  v_int : ℤ → ConstVal
  v_real : Float → ConstVal
  v_str : Bytes → ConstVal

pub data UnaryOp : Type 0 where
  neg not bit_not ref : UnaryOp

-- operators on integers and reals
pub data Arith : Type 0 where
  add sub mul div : Arith

-- operators on integers alone
pub data IntOp : Type 0 where
  rem and or xor lshift rshift eq neq lt gt leq geq : IntOp

pub data BinOp : Type 0 where
  arith : Arith → BinOp
  int_op : IntOp → BinOp
  power log_and log_or : BinOp

-- OP counts from 0 in these orders
abbrev pub unary_ops : List UnaryOp
unary_ops = neg ∷ not ∷ bit_not ∷ ref ∷ []

abbrev pub bin_ops : List BinOp
bin_ops =
    arith add ∷ arith sub ∷ arith mul ∷ arith div ∷ int_op rem ∷ power ∷ int_op and ∷ int_op or ∷ int_op xor ∷ int_op lshift ∷ int_op rshift
    ∷ int_op eq ∷ int_op neq ∷ int_op lt ∷ int_op gt ∷ int_op leq ∷ int_op geq ∷ log_and ∷ log_or ∷ []

mutual
  pub data Ex : Type 0 where
    constant : ConstVal → Ex
    ident : Bytes → Ex
    mod_qual : Ex → Bytes → Ex
    unary : UnaryOp → Ex → Ex
    binary : Ex → BinOp → Ex → Ex
    cast : Ty → Ex → Ex
    len : Ex → Ex
    array_ex : ArrayEx → Ex
    other_ex : Ex

  -- `alloc`: length and element type; `lit`: size, element type and elements
  pub data ArrayEx : Type 0 where
    alloc : Ex → Ty → ArrayEx
    lit : MaybeEx → Option Ty → Els → ArrayEx

  pub data MaybeEx : Type 0 where
    absent : MaybeEx
    given : Ex → MaybeEx

  -- an element's value, with its selectors for `at`
  pub data El : Type 0 where
    next : Ex → El
    star : Ex → El
    at : Ex → Ses → El

  pub data Els : Type 0 where
    no_els : Els
    and_el : El → Els → Els

  pub data Ses : Type 0 where
    no_ses : Ses
    and_se : Ex → MaybeEx → Ses → Ses

-- an expression by cases: a name, a cast, a literal or `alloc`, or any other
abbrev pub by_form {ℓ} : {A : Type ℓ} → (Bytes → A) → (Ty → A) → (ArrayEx → A) → A → Ex → A
by_form n c a d (constant v) = d
by_form n c a d (ident m) = n m
by_form n c a d (mod_qual e m) = d
by_form n c a d (unary o e) = d
by_form n c a d (binary l o r) = d
by_form n c a d (cast t e) = c t
by_form n c a d (len e) = d
by_form n c a d (array_ex x) = a x
by_form n c a d other_ex = d

-- a selector: low, and high where there is one
pub record Se : Type 0 where
  pub low : Ex
  pub high : MaybeEx

-- ---- declarations

pub record Fd : Type 0 where
  pub ty : Option Ty
  pub names : List Bytes

pub record Case : Type 0 where
  pub tags : List Bytes
  pub fields : List Fd

-- an `adt` line, or a `pick` line with its cases
pub record AdtDecl : Type 0 where
  pub name : Bytes
  pub fields : List Fd
  pub pick : Option (List Case)

pub record ConstDecl : Type 0 where
  pub name : Bytes
  pub line : ℕ
  pub col : ℕ
  pub value : Ex

pub record VarDecl : Type 0 where
  pub ty : Ty
  pub init : Option Ex
  pub names : List Bytes

-- a size, and offsets that are pointers
pub record Shape : Type 0 where
  pub size : ℕ
  pub pointers : List ℤ

-- how an array holds its elements; all types but int, byte, big and real are held as pointers
pub data ElemKind : Type 0 where
  k_byte k_word k_big k_real k_ptr : ElemKind

-- what a descriptor is for: a `need` line asks for it, or an array for its elements
pub data TypeKey : Type 0 where
  adt_key : Bytes → TypeKey
  elem_key : ElemKind → TypeKey
  block_key : Shape → TypeKey
  opaque_key : TypeKey

-- what a line declares: at most one of these, `opens` for `mod`, `closes` for `end`
pub record Declares : Type 0 where
  pub adts : List AdtDecl
  pub consts : List ConstDecl
  pub vars : List VarDecl
  pub frames : List Shape
  pub needs : List TypeKey
  pub opens : List Bytes
  pub closes : Bool
  pub implements : List Bytes

-- ---- what a line makes: one of these; the others hold a filler, which nothing reads where refusal 4 finds no fault

pub record Node : Type 0 where
  pub ty : Ty
  pub ex : Ex
  pub el : El
  pub se : Se
  pub fd : Fd
  pub case : Case
  pub declares : Declares

abbrev pub no_fd : Fd
no_fd = record { ty = None; names = [] }

abbrev pub no_case : Case
no_case = record { tags = []; fields = [] }

abbrev pub no_se : Se
no_se = record { low = other_ex; high = absent }

abbrev pub declaring : List AdtDecl → List ConstDecl → List VarDecl → List Shape → List TypeKey → List Bytes → Bool → List Bytes → Node
declaring ds cs vs fs ns os c is = record {
  ty = ptr;
  ex = other_ex;
  el = next other_ex;
  se = no_se;
  fd = no_fd;
  case = no_case;
  declares = record { adts = ds; consts = cs; vars = vs; frames = fs; needs = ns; opens = os; closes = c; implements = is };
}

abbrev pub no_node : Node
no_node = declaring [] [] [] [] [] [] false []

abbrev pub tree : Ty → Ex → El → Se → Fd → Case → Node
tree t e l s f k = record { ty = t; ex = e; el = l; se = s; fd = f; case = k; declares = no_node.declares }

abbrev pub a_ty : Ty → Node
a_ty t = tree t other_ex (next other_ex) no_se no_fd no_case

abbrev pub an_ex : Ex → Node
an_ex e = tree ptr e (next other_ex) no_se no_fd no_case

abbrev pub an_el : El → Node
an_el l = tree ptr other_ex l no_se no_fd no_case

abbrev pub a_se : Ex → MaybeEx → Node
a_se l h = tree ptr other_ex (next other_ex) (record { low = l; high = h }) no_fd no_case

abbrev pub an_fd : Option Ty → List Bytes → Node
an_fd t ns = tree ptr other_ex (next other_ex) no_se (record { ty = t; names = ns }) no_case

abbrev pub a_case : List Bytes → List Fd → Node
a_case ts fs = tree ptr other_ex (next other_ex) no_se no_fd (record { tags = ts; fields = fs })

abbrev pub an_adt : Bytes → List Fd → Option (List Case) → Node
an_adt n fs ks = declaring (record { name = n; fields = fs; pick = ks } ∷ []) [] [] [] [] [] false []

abbrev pub a_const : Bytes → ℕ → ℕ → Ex → Node
a_const n l c e = declaring [] (record { name = n; line = l; col = c; value = e } ∷ []) [] [] [] [] false []

abbrev pub a_var : Ty → Option Ex → List Bytes → Node
a_var t e ns = declaring [] [] (record { ty = t; init = e; names = ns } ∷ []) [] [] [] false []

abbrev pub a_frame : ℕ → List ℤ → Node
a_frame s os = declaring [] [] [] (record { size = s; pointers = os } ∷ []) [] [] false []

abbrev pub a_need : TypeKey → Node
a_need k = declaring [] [] [] [] (k ∷ []) [] false []

abbrev pub a_module : Bytes → Node
a_module n = declaring [] [] [] [] [] (n ∷ []) false []

abbrev pub an_end : Node
an_end = declaring [] [] [] [] [] [] true []

abbrev pub an_impl : Bytes → Node
an_impl n = declaring [] [] [] [] [] [] false (n ∷ [])
