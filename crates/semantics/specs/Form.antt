-- The table of forms: which lines there are, and what each of them makes of its fields.
use Rattle.std.specs.Prelude.{ℕ, zero, suc, ◌+◌, ◌-◌, ◌*◌, ◌%◌, ◌^◌, Bool, true, false, not, ◌&&◌, ◌||◌, cond, List, [], ◌∷◌, ◌++◌, map, length, drop, get_or, replicate, ℤ, pos, negsuc, leb, ltb, eqb, Float, Option, None, Some}
use Prim.Native.String.{String}
use Rattle.std.specs.Float.{binary64}
use Rattle.std.specs.Float.Ieee.{of_bits}
use Rattle.semantics.specs.Text.{Bytes, bytes, nat_of, int_of, unhex, from_big_endian, is_name, is_utf8, parts_at, fields_of, head_part, tail_parts, or_else, map_option, holds_of}
use Rattle.semantics.specs.Tree.{Basic, Ty, Tys, Ex, MaybeEx, Els, Ses, Fd, Case, UnaryOp, BinOp, unary_ops, bin_ops, Node, no_node, a_ty, an_ex, an_el, a_se, an_fd, a_case, an_adt, a_const, a_var, a_frame, a_need, a_module, an_end, an_impl}
use Rattle.semantics.specs.Tree.Basic.{int, byte, big, string}
use Rattle.semantics.specs.Tree.Ty.{basic, ptr, array, tuple}
use Rattle.semantics.specs.Tree.Tys.{no_tys, and_ty}
use Rattle.semantics.specs.Tree.ConstVal.{v_int, v_real, v_str}
use Rattle.semantics.specs.Tree.Ex.{constant, ident, mod_qual, unary, binary, cast, len, array_ex, other_ex}
use Rattle.semantics.specs.Tree.ArrayEx.{alloc, lit}
use Rattle.semantics.specs.Tree.MaybeEx.{absent, given}
use Rattle.semantics.specs.Tree.El.{next, star, at}
use Rattle.semantics.specs.Tree.Els.{no_els, and_el}
use Rattle.semantics.specs.Tree.Ses.{no_ses, and_se}
use Rattle.semantics.specs.Tree.ElemKind.{k_byte, k_word, k_big, k_real, k_ptr}
use Rattle.semantics.specs.Tree.TypeKey.{adt_key, elem_key, block_key, opaque_key}

-- ---- the fields of a form

-- a line's first keyword, which is what a reference to it asks for
pub data Kind : Type 0 where
  k_ty k_ex k_el k_se k_fd k_pc k_adt k_pick k_con k_var k_mod k_end k_impl k_frame k_need : Kind

-- the letter that the code's table of forms has for a kind; kinds are compared by it
abbrev pub letter : Kind → ℕ
letter k_ty = 75
letter k_ex = 69
letter k_el = 76
letter k_se = 74
letter k_fd = 70
letter k_pc = 67
letter k_adt = 65
letter k_pick = 66
letter k_con = 68
letter k_var = 72
letter k_mod = 77
letter k_end = 79
letter k_impl = 73
letter k_frame = 71
letter k_need = 78

abbrev pub same_kind : Kind → Kind → Bool
same_kind j k = eqb (letter j) (letter k)

-- What a field holds: `name` a NAME, `key` a NAME or NAME.NAME, `ref` an R to a line of a kind, `maybe` the same or 0,
-- `unary_op` and `binary_op` an OP, `line_or_col` a LINE or COL, `size` a SIZE in bytes, `i64` an integer of 64 bits, `offset` an
-- offset of a pointer, `real` 16 digits that are no NaN, `text` the hex of UTF-8.
pub data Atom : Type 0 where
  name key : Atom
  ref maybe : Kind → Atom
  unary_op binary_op line_or_col size : Atom
  i64 offset real text : Atom

-- a field; or an N and as many fields
pub data Part : Type 0 where
  one many : Atom → Part

abbrev pub is_number : Bytes → Bool
is_number f = holds_of (λ (n : ℕ). true) (nat_of f)

abbrev pub up_to : ℕ → Bytes → Bool
up_to m f = holds_of (λ (n : ℕ). leb n m) (nat_of f)

-- from −lo to hi
abbrev pub between : ℕ → ℕ → ℤ → Bool
between lo hi (pos n) = leb n hi
between lo hi (negsuc n) = ltb n lo

-- NAME or NAME.NAME, by its parts between full stops
abbrev pub is_key : List Bytes → Bool
is_key [] = false
is_key (n ∷ []) = is_name n
is_key (n ∷ (m ∷ [])) = is_name n && is_name m
is_key (n ∷ (m ∷ (x ∷ xs))) = false

-- whether bits are no NaN's: without the sign they are not above infinity's
abbrev pub not_nan : ℕ → Bool
not_nan b = leb (b % 2 ^ 63) (0x7FF * 2 ^ 52)

abbrev pub is_real_bytes : Bytes → Bool
is_real_bytes bs = eqb (length bs) 8 && not_nan (from_big_endian 0 bs)

-- whether a field is good
abbrev pub holds : Atom → Bytes → Bool
holds name f = is_name f
holds key f = is_key (parts_at 46 f)
holds (ref k) f = is_number f
holds (maybe k) f = is_number f
holds unary_op f = up_to 3 f
holds binary_op f = up_to 18 f
holds line_or_col f = up_to 65535 f
holds size f = up_to 4096 f
holds i64 f = holds_of (between (2 ^ 63) (2 ^ 63 - 1)) (int_of f)
holds offset f = holds_of (between 4096 4096) (int_of f)
holds real f = holds_of is_real_bytes (unhex f)
holds text f = holds_of is_utf8 (unhex f)

-- N: a count 0 to 16
abbrev pub is_count : Bytes → Bool
is_count f = up_to 16 f

-- ---- what a good field says, where ns are the nodes of the lines before

abbrev pub Value : Atom → Type 0
Value name = Bytes
Value key = Bytes
Value (ref k) = Node
Value (maybe k) = Option Node
Value unary_op = UnaryOp
Value binary_op = BinOp
Value line_or_col = ℕ
Value size = ℕ
Value i64 = ℤ
Value offset = ℤ
Value real = Float
Value text = Bytes

abbrev pub number_of : Bytes → ℕ
number_of f = or_else 0 (nat_of f)

-- the node of line r, from 1
abbrev pub node_at : List Node → ℕ → Node
node_at ns r = get_or ns (r - 1) no_node

-- and of 0 none
abbrev pub perhaps_at : List Node → ℕ → Option Node
perhaps_at ns zero = None
perhaps_at ns (suc r) = Some (node_at ns (suc r))

abbrev pub value : (a : Atom) → List Node → Bytes → Value a
value name ns f = f
value key ns f = f
value (ref k) ns f = node_at ns (number_of f)
value (maybe k) ns f = perhaps_at ns (number_of f)
value unary_op ns f = get_or unary_ops (number_of f) UnaryOp.ref
value binary_op ns f = get_or bin_ops (number_of f) BinOp.power
value line_or_col ns f = number_of f
value size ns f = number_of f
value i64 ns f = or_else (pos 0) (int_of f)
value offset ns f = or_else (pos 0) (int_of f)
value real ns f = of_bits binary64 (from_big_endian 0 (or_else [] (unhex f)))
value text ns f = or_else [] (unhex f)

-- ---- the table of forms

-- what a form makes of the values of its fields
abbrev pub Makes : List Part → Type 0
Makes [] = Node
Makes (one a ∷ ps) = Value a → Makes ps
Makes (many a ∷ ps) = List (Value a) → Makes ps

pub record Row : Type 0 where
  pub kind : Kind
  pub words : Bytes
  pub parts : List Part
  pub make : Makes parts

abbrev pub form : Kind → String → (ps : List Part) → Makes ps → Row
form k w ps m = record { kind = k; words = bytes w; parts = ps; make = m }

abbrev pub tys_of : List Node → Tys
tys_of [] = no_tys
tys_of (n ∷ ns) = and_ty n.ty (tys_of ns)

abbrev pub els_of : List Node → Els
els_of [] = no_els
els_of (n ∷ ns) = and_el n.el (els_of ns)

abbrev pub ses_of : List Node → Ses
ses_of [] = no_ses
ses_of (n ∷ ns) = and_se n.se.low n.se.high (ses_of ns)

abbrev pub fds_of : List Node → List Fd
fds_of ns = map (λ (n : Node). n.fd) ns

abbrev pub cases_of : List Node → List Case
cases_of ns = map (λ (n : Node). n.case) ns

abbrev pub ty_of : Option Node → Option Ty
ty_of o = map_option (λ (n : Node). n.ty) o

abbrev pub ex_of : Option Node → Option Ex
ex_of o = map_option (λ (n : Node). n.ex) o

abbrev pub maybe_ex : Option Node → MaybeEx
maybe_ex None = absent
maybe_ex (Some n) = given n.ex

abbrev pub to_ty : Part
to_ty = one (ref k_ty)

abbrev pub to_ex : Part
to_ex = one (ref k_ex)

abbrev pub perhaps_ty : Part
perhaps_ty = one (maybe k_ty)

abbrev pub perhaps_ex : Part
perhaps_ex = one (maybe k_ex)

-- keywords, the fields behind them, and what the line makes
unfoldable pub forms : List Row
forms =
    form k_ty "ty,int" [] (a_ty (basic int))
    ∷ form k_ty "ty,byte" [] (a_ty (basic byte))
    ∷ form k_ty "ty,big" [] (a_ty (basic big))
    ∷ form k_ty "ty,real" [] (a_ty (basic Basic.real))
    ∷ form k_ty "ty,string" [] (a_ty (basic string))
    ∷ form k_ty "ty,ptr" [] (a_ty ptr)
    ∷ form k_ty "ty,array" (to_ty ∷ []) (λ t. a_ty (array t.ty))
    ∷ form k_ty "ty,tuple" (many (ref k_ty) ∷ []) (λ ts. a_ty (tuple (tys_of ts)))
    ∷ form k_ex "ex,int" (one i64 ∷ []) (λ z. an_ex (constant (v_int z)))
    ∷ form k_ex "ex,real" (one real ∷ []) (λ x. an_ex (constant (v_real x)))
    ∷ form k_ex "ex,str" (one text ∷ []) (λ s. an_ex (constant (v_str s)))
    ∷ form k_ex "ex,id" (one name ∷ []) (λ n. an_ex (ident n))
    ∷ form k_ex "ex,qual" (to_ex ∷ one name ∷ []) (λ e n. an_ex (mod_qual e.ex n))
    ∷ form k_ex "ex,un" (one unary_op ∷ to_ex ∷ []) (λ o e. an_ex (unary o e.ex))
    ∷ form k_ex "ex,bin" (one binary_op ∷ to_ex ∷ to_ex ∷ []) (λ o l r. an_ex (binary l.ex o r.ex))
    ∷ form k_ex "ex,cast" (to_ty ∷ to_ex ∷ []) (λ t e. an_ex (cast t.ty e.ex))
    ∷ form k_ex "ex,len" (to_ex ∷ []) (λ e. an_ex (len e.ex))
    ∷ form k_ex "ex,alloc" (to_ex ∷ to_ty ∷ []) (λ e t. an_ex (array_ex (alloc e.ex t.ty)))
    ∷ form k_ex "ex,lit" (perhaps_ex ∷ perhaps_ty ∷ many (ref k_el) ∷ []) (λ s t es. an_ex (array_ex (lit (maybe_ex s) (ty_of t) (els_of es))))
    ∷ form k_ex "ex,other" [] (an_ex other_ex)
    ∷ form k_el "el,next" (to_ex ∷ []) (λ e. an_el (next e.ex))
    ∷ form k_el "el,star" (to_ex ∷ []) (λ e. an_el (star e.ex))
    ∷ form k_el "el,at" (to_ex ∷ many (ref k_se) ∷ []) (λ e ss. an_el (at e.ex (ses_of ss)))
    ∷ form k_se "se" (to_ex ∷ perhaps_ex ∷ []) (λ l h. a_se l.ex (maybe_ex h))
    ∷ form k_fd "fd" (perhaps_ty ∷ many name ∷ []) (λ t ns. an_fd (ty_of t) ns)
    ∷ form k_pc "pc" (many name ∷ many (ref k_fd) ∷ []) (λ ts fs. a_case ts (fds_of fs))
    ∷ form k_adt "adt" (one name ∷ many (ref k_fd) ∷ []) (λ n fs. an_adt n (fds_of fs) None)
    ∷ form k_pick "pick" (one name ∷ many (ref k_fd) ∷ many (ref k_pc) ∷ []) (λ n fs ks. an_adt n (fds_of fs) (Some (cases_of ks)))
    ∷ form k_con "con" (one name ∷ one line_or_col ∷ one line_or_col ∷ to_ex ∷ []) (λ n l c e. a_const n l c e.ex)
    ∷ form k_var "var" (to_ty ∷ perhaps_ex ∷ many name ∷ []) (λ t e ns. a_var t.ty (ex_of e) ns)
    ∷ form k_mod "mod" (one name ∷ []) a_module
    ∷ form k_end "end" [] an_end
    ∷ form k_impl "impl" (one name ∷ []) an_impl
    ∷ form k_frame "frame" (one size ∷ many offset ∷ []) a_frame
    ∷ form k_need "need,adt" (one key ∷ []) (λ k. a_need (adt_key k))
    ∷ form k_need "need,elem,int" [] (a_need (elem_key k_word))
    ∷ form k_need "need,elem,byte" [] (a_need (elem_key k_byte))
    ∷ form k_need "need,elem,big" [] (a_need (elem_key k_big))
    ∷ form k_need "need,elem,real" [] (a_need (elem_key k_real))
    ∷ form k_need "need,elem,string" [] (a_need (elem_key k_ptr))
    ∷ form k_need "need,block" (one size ∷ many offset ∷ []) (λ s os. a_need (block_key (record { size = s; pointers = os })))
    ∷ form k_need "need,opaque" [] (a_need opaque_key)
    ∷ []

abbrev pub no_row : Row
no_row = form k_end "" [] an_end

-- ---- the form of a line

-- whether a line begins with keywords
abbrev pub begins : Bytes → Bytes → Bool
begins [] [] = true
begins [] (b ∷ bs) = eqb b 44
begins (w ∷ ws) [] = false
begins (w ∷ ws) (b ∷ bs) = eqb b w && begins ws bs

-- the number of the first form whose keywords a line begins with, or how many rows there are
abbrev pub row_of : List Row → Bytes → ℕ
row_of [] l = 0
row_of (r ∷ rs) l = cond (begins r.words l) 0 (suc (row_of rs l))

-- the fields of a line from place n on, none where the line ends before it
abbrev pub fields_from : ℕ → Bytes → List Bytes
fields_from n l = cond (ltb (length l) n) [] (fields_of (drop n l))

abbrev pub ones : ℕ → Atom → List Part
ones n a = replicate n (one a)

-- whether fields are those of a form
abbrev pub fits : List Part → List Bytes → Bool
fits [] [] = true
fits [] (f ∷ fs) = false
fits (p ∷ ps) [] = false
fits (one a ∷ ps) (f ∷ fs) = holds a f && fits ps fs
fits (many a ∷ ps) (f ∷ fs) = is_count f && fits (ones (number_of f) a ++ ps) fs

-- a line's form, and the fields behind its keywords
pub record Read : Type 0 where
  pub form : Row
  pub fields : List Bytes

unfoldable pub read_of : Bytes → Read
read_of l =
    let r = get_or forms (row_of forms l) no_row in
    record { form = r; fields = fields_from (length r.words + 1) l }

-- whether line k has a form: at most 255 bytes, the fields of its form, and `impl` on line 1 only
unfoldable pub formed : ℕ → Bytes → Bool
formed k l =
    let r = read_of l in
    leb (length l) 255 && ltb (row_of forms l) (length forms) && fits r.form.parts r.fields && (eqb k 1 || not (same_kind r.form.kind k_impl))

-- ---- what it makes

-- the values of the first n fields
abbrev pub values : (a : Atom) → List Node → ℕ → List Bytes → List (Value a)
values a ns zero fs = []
values a ns (suc n) fs = value a ns (head_part fs) ∷ values a ns n (tail_parts fs)

-- what a form's parts make of fields, one after the other
abbrev pub make : (ps : List Part) → Makes ps → List Node → List Bytes → Node
make [] m ns fs = m
make (one a ∷ ps) m ns fs = make ps (m (value a ns (head_part fs))) ns (tail_parts fs)
make (many a ∷ ps) m ns fs =
    let n = number_of (head_part fs) in
    make ps (m (values a ns n (tail_parts fs))) ns (drop (suc n) fs)

-- what a line makes, where ns are the nodes of the lines before it
unfoldable pub node_of : List Node → Read → Node
node_of ns r = make r.form.parts r.form.make ns r.fields
