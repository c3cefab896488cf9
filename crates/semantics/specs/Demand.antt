-- Demand 3: what stands in each byte of the image and of the area, by place. Nothing before `Demand` itself speaks of a replay:
-- a byte is found by the global, or by the array, in whose place it lies.
use Rattle.std.specs.Prelude.{ℕ, zero, suc, ◌+◌, ◌-◌, ◌*◌, ◌/◌, ◌%◌, ◌^◌, ◌≤◌, ◌<◌, max, ◌≡◌, Bool, true, false, not, ◌&&◌, cond, List, [], ◌∷◌, ◌++◌, map, length, take, get_or, ℤ, pos, negsuc, leb, ltb, eqb, Option, None, Some}
use Rattle.std.specs.List.{slice_get}
use Rattle.std.specs.Int.Signed.{le_z}
use Rattle.semantics.specs.Text.{Bytes, same, any, all, is_none, big_endian}
use Rattle.semantics.specs.Tree.{Basic, Ty, Ex, ArrayEx, Els, Fd, Case, AdtDecl, VarDecl, ConstVal, ElemKind, MaybeEx, by_form, elem_of}
use Rattle.semantics.specs.Tree.Basic.{int, byte, big, real, string}
use Rattle.semantics.specs.Tree.Ty.{basic, ptr, array, tuple}
use Rattle.semantics.specs.Tree.ConstVal.{v_int, v_real, v_str}
use Rattle.semantics.specs.Tree.ArrayEx.{alloc, lit}
use Rattle.semantics.specs.Tree.MaybeEx.{absent, given}
use Rattle.semantics.specs.Tree.El.{next, star, at}
use Rattle.semantics.specs.Tree.Els.{no_els, and_el}
use Rattle.semantics.specs.Tree.ElemKind.{k_byte, k_word, k_big, k_real, k_ptr}
use Rattle.semantics.specs.Sheet.{Located, Source, sheet_source, concat_map}
use Rattle.semantics.specs.Layout.{size_of, is_ptr, map_of, PlacedField, Recorded, recorded_adts, records, records_of, seen}
use Rattle.semantics.specs.Fold.{Result, Names, fold_at0, bits64, real_bytes}
use Rattle.semantics.specs.Fold.Result.{ok, failed, refuse}
use Rattle.semantics.specs.Const.{names_of}
use Rattle.semantics.specs.Array.{ConstArray, elem_kind, spans_of, is_real, is_str, const_byte, const_word, const_big, const_real}
use Rattle.semantics.specs.Global.{Item, Init, Declared, declared_in, laid_vars, laid_names, init_of, init_items, global_size, new_offset, Global}
use Rattle.semantics.specs.Global.Item.{values_item, str_item, array_item, set_item, back_item}
use Rattle.semantics.specs.Global.Init.{no_init, const_init, array_init, pending_init}
use Rattle.semantics.specs.Image.{word_bytes, big_bytes, handle, elem_size, part_at, area_after}
use Rattle.semantics.specs.Refusal.{Buffers, imaged, source_globals}
use Rattle.semantics.specs.Refusal.Imaged.{laid}

-- ---- the premises

-- no name stands twice
abbrev pub names_distinct : List Declared → Bool
names_distinct [] = true
names_distinct (d ∷ ds) = not (any (λ (e : Declared). same e.name d.name) ds) && names_distinct ds

abbrev pub is_int : ConstVal → Bool
is_int (v_int x) = true
is_int (v_real x) = false
is_int (v_str s) = false

-- a value is of its type's kind: an integer for int, byte or big, a real for real, a string for string
abbrev pub is_of_basic : Basic → ConstVal → Bool
is_of_basic int v = is_int v
is_of_basic byte v = is_int v
is_of_basic big v = is_int v
is_of_basic real v = is_real v
is_of_basic string v = is_str v

-- and for ptr
abbrev pub is_of : Ty → ConstVal → Bool
is_of (basic b) v = is_of_basic b v
is_of ptr v = is_str v
is_of (array t) v = false
is_of (tuple ts) v = false

abbrev pub is_array_ty : Ty → Bool
is_array_ty t = not (is_none (elem_of t))

-- a literal or `alloc` for an array; a pending value fits any type
abbrev pub of_kind : Ty → Init → Bool
of_kind t no_init = true
of_kind t (const_init v) = is_of t v
of_kind t (array_init a) = is_array_ty t
of_kind t pending_init = true

abbrev pub kinds_fit : List Declared → Bool
kinds_fit ds = all (λ (d : Declared). of_kind d.ty d.first) ds

-- ---- where the globals lie

-- a global's place, the number of its first item, and the start of its part of the area; where it has none, the number and the
-- start that the next one would have
pub record LaidGlobal : Type 0 where
  pub global : Declared
  pub offset : ℕ
  pub item : ℕ
  pub start : ℕ

-- an array takes its elements' size times its length, from the next multiple of 8
abbrev pub after_part : ℕ → Init → ℕ
after_part end no_init = end
after_part end (const_init v) = end
after_part end (array_init a) = part_at end + elem_size a.kind * a.count
after_part end pending_init = end

-- globals one after the other, with the end of the places so far, the number of the next item, and the end of the parts so far
abbrev pub laid_from : ℕ → ℕ → ℕ → List Declared → List LaidGlobal
laid_from end k area [] = []
laid_from end k area (d ∷ ds) =
    let off = new_offset d.ty end in
    record { global = d; offset = off; item = k; start = part_at area }
    ∷ laid_from (off + global_size d.ty) (k + length (init_items off d.ty d.first)) (after_part area d.first) ds

-- a sheet's globals with their first values, which see all its constants
abbrev pub source_declared : Source → List Declared
source_declared s = declared_in (names_of s) s

abbrev pub laid_of : Source → List LaidGlobal
laid_of s = laid_from 0 0 0 (source_declared s)

-- ---- what a global's place holds

-- int and byte as the value's low 32 bits, big as 64, real as its bits, strings as handles, k being the number of the item
abbrev pub value_bytes : Ty → ℕ → ConstVal → Bytes
value_bytes t k (v_int x) = big_endian (global_size t) (bits64 x)
value_bytes t k (v_real x) = real_bytes x
value_bytes t k (v_str s) = handle k

-- arrays as handles; a pending global or one without value stays zero, as does every byte behind these
abbrev pub first_bytes : Ty → ℕ → Init → Bytes
first_bytes t k no_init = []
first_bytes t k (const_init v) = value_bytes t k v
first_bytes t k (array_init a) = handle k
first_bytes t k pending_init = []

-- whether byte p is one of n bytes from off on
abbrev pub lies_in : ℕ → ℕ → ℕ → Bool
lies_in p off n = leb off p && ltb p (off + n)

-- byte p of the image: of the value of the global that has it in its place, else 0
abbrev pub image_byte : List LaidGlobal → ℕ → ℕ
image_byte [] p = 0
image_byte (l ∷ ls) p =
    cond (lies_in p l.offset (global_size l.global.ty))
    (get_or (first_bytes l.global.ty l.item l.global.first) (p - l.offset) 0)
    (image_byte ls p)

-- ---- what an array's part of the area holds

-- a string as its handle, k being the number of its item; a value that leaves no item leaves zeros
abbrev pub string_bytes : ℕ → ConstVal → Bytes
string_bytes k (v_int x) = 0 ∷ 0 ∷ 0 ∷ 0 ∷ []
string_bytes k (v_real x) = 0 ∷ 0 ∷ 0 ∷ 0 ∷ []
string_bytes k (v_str s) = handle k

-- an element after conversion, a byte in one byte
abbrev pub element_bytes : ElemKind → ℕ → ConstVal → Bytes
element_bytes k_byte k v = const_byte v ∷ []
element_bytes k_word k v = word_bytes (const_word v)
element_bytes k_big k v = big_bytes (const_big v)
element_bytes k_real k v = real_bytes (const_real v)
element_bytes k_ptr k v = string_bytes k v

-- the number behind the item that a value leaves among strings
abbrev pub after_string : ℕ → ConstVal → ℕ
after_string k (v_int x) = k
after_string k (v_real x) = k
after_string k (v_str s) = suc k

-- the elements in index order, k being the number of the first string's item
abbrev pub elements_bytes : ElemKind → ℕ → List ConstVal → Bytes
elements_bytes e k [] = []
elements_bytes e k (v ∷ vs) = element_bytes e k v ++ elements_bytes e (after_string k v) vs

-- byte p of the area, where an array's part has it, or else rest: the first string's item comes behind the array's own and `set`
abbrev pub part_byte : ℕ → ℕ → ℕ → Init → ℕ → ℕ
part_byte p k start no_init rest = rest
part_byte p k start (const_init v) rest = rest
part_byte p k start (array_init a) rest =
    cond (lies_in p start (elem_size a.kind * a.count)) (get_or (elements_bytes a.kind (suc (suc k)) a.values) (p - start) 0) rest
part_byte p k start pending_init rest = rest

abbrev pub area_byte : List LaidGlobal → ℕ → ℕ
area_byte [] p = 0
area_byte (l ∷ ls) p = part_byte p l.item l.start l.global.first (area_byte ls p)

-- the ends of the last place and of the last part

abbrev pub image_end : ℕ → List LaidGlobal → ℕ
image_end end [] = end
image_end end (l ∷ ls) = image_end (l.offset + global_size l.global.ty) ls

abbrev pub area_end : ℕ → List LaidGlobal → ℕ
area_end end [] = end
area_end end (l ∷ ls) = area_end (after_part end l.global.first) ls

-- ---- the values of an array's elements

abbrev pub span_list : Result (List (ℤ × ℤ)) → List (ℤ × ℤ)
span_list (ok ss) = ss
span_list failed = []
span_list (refuse r) = []

-- whether selectors low to high name an index
abbrev pub covers : ℕ → ℤ × ℤ → Bool
covers i s = le_z s.0 (pos i) && le_z (pos i) s.1

abbrev pub after_high : ℤ → ℕ
after_high (pos h) = suc h
after_high (negsuc h) = 0

-- the index of a plain element: behind the last span that is not empty
abbrev pub next_index_after : ℕ → List (ℤ × ℤ) → ℕ
next_index_after n [] = n
next_index_after n (s ∷ ss) = next_index_after (cond (le_z s.0 s.1) (after_high s.1) n) ss

-- the value last given to index i, or else v; n is the index that the next plain element has
abbrev pub last_given : Names → ℕ → ℕ → Result ConstVal → Els → Result ConstVal
last_given ns i n v no_els = v
last_given ns i n v (and_el (next e) es) = last_given ns i (suc n) (cond (eqb i n) (fold_at0 ns e) v) es
last_given ns i n v (and_el (star e) es) = last_given ns i n v es
last_given ns i n v (and_el (at e ss) es) =
    let list = span_list (spans_of ns ss) in
    last_given ns i (next_index_after n list) (cond (any (covers i) list) (fold_at0 ns e) v) es

-- the filler: the last wildcard, else v
abbrev pub last_star : Names → Result ConstVal → Els → Result ConstVal
last_star ns v no_els = v
last_star ns v (and_el (next e) es) = last_star ns v es
last_star ns v (and_el (star e) es) = last_star ns (fold_at0 ns e) es
last_star ns v (and_el (at e ss) es) = last_star ns v es

abbrev pub element_at : Names → Els → ℕ → Result ConstVal
element_at ns es i = last_given ns i 0 (last_star ns (ok (v_int (pos 0))) es) es

-- the furthest end of spans that are not empty, at least r
abbrev pub spans_reach : ℕ → List (ℤ × ℤ) → ℕ
spans_reach r [] = r
spans_reach r (s ∷ ss) = spans_reach (cond (le_z s.0 s.1) (max r (after_high s.1)) r) ss

-- the furthest end of the indices of elements, at least r; n is the index that the next plain element has
abbrev pub reach_of : Names → ℕ → ℕ → Els → ℕ
reach_of ns n r no_els = r
reach_of ns n r (and_el (next e) es) = reach_of ns (suc n) (max r (suc n)) es
reach_of ns n r (and_el (star e) es) = reach_of ns n r es
reach_of ns n r (and_el (at e ss) es) =
    let list = span_list (spans_of ns ss) in
    reach_of ns (next_index_after n list) (spans_reach r list) es

-- a literal's length: its size, or else as many as its indices reach
abbrev pub LengthOf : Names → Els → MaybeEx → ℕ → Type 0
LengthOf ns es absent n = n ≡ reach_of ns 0 0 es
LengthOf ns es (given e) n = fold_at0 ns e ≡ ok (v_int (pos n))

-- a literal's array has one value for each index, the one last given to it or else the filler; an `alloc` array has none
abbrev pub Given : Names → ConstArray → ArrayEx → Type 0
Given ns a (alloc e t) = (fold_at0 ns e ≡ ok (v_int (pos a.count))) × (a.values ≡ [])
Given ns a (lit s t es) =
    LengthOf ns es s a.count × (length a.values ≡ a.count)
    × ((i : ℕ) → i < a.count → ok (get_or a.values i (v_int (pos 0))) ≡ element_at ns es i)

-- no other expression is an array; the elements are of the kind of the array type's elements
pub record GivenBy (ns : Names) (declared : Option Ty) (e : Ex) (a : ConstArray) : Type 0 where
  pub values : by_form (λ (n : Bytes). ⊥) (λ (t : Ty). ⊥) (Given ns a) ⊥ e
  pub kind : (u : Ty) → declared ≡ Some u → a.kind ≡ elem_kind u

-- ---- handles and the items of the sheet

-- where the part of the array item numbered k starts, by the items before it
abbrev pub part_of : List Item → ℕ → ℕ
part_of is k = part_at (area_after 0 (take k is))

-- what the items behind an item are put into: the array at a place of the image, or, where there is none, the image
abbrev pub put_after : Item → Option ℕ → Option ℕ
put_after (values_item o vs) w = w
put_after (str_item o s) w = w
put_after (array_item o k n) w = w
put_after (set_item o) w = Some o
put_after back_item w = None

-- what item k is put into, where the first is put into w
abbrev pub put_in : Option ℕ → List Item → ℕ → Option ℕ
put_in w [] k = w
put_in w (i ∷ is) zero = w
put_in w (i ∷ is) (suc k) = put_in (put_after i w) is k

-- item k is x, and is put into the image, or into the array at a place of the image
pub record Put (is : List Item) (k : ℕ) (w : Option ℕ) (x : Item) : Type 0 where
  pub item : slice_get is k ≡ Some x
  pub into : put_in None is k ≡ w

-- item k is that of a string element at o of the part of the array at off
abbrev pub StringAt : List Item → ℕ → ℕ → ℕ → ConstVal → Type 0
StringAt is off k o (v_int x) = Unit {0}
StringAt is off k o (v_real x) = Unit {0}
StringAt is off k o (v_str s) = Put is k (Some off) (str_item o s)

-- the items from k on are those of the strings among the elements of the array at off, the first of which lies at o of its part
abbrev pub StringsAt : List Item → ℕ → ℕ → ℕ → List ConstVal → Type 0
StringsAt is off k o [] = Unit {0}
StringsAt is off k o (v ∷ vs) = StringAt is off k o v × StringsAt is off (after_string k v) (o + 4) vs

abbrev pub ElementsAt : List Item → ℕ → ℕ → ElemKind → List ConstVal → Type 0
ElementsAt is off k k_byte vs = Unit {0}
ElementsAt is off k k_word vs = Unit {0}
ElementsAt is off k k_big vs = Unit {0}
ElementsAt is off k k_real vs = Unit {0}
ElementsAt is off k k_ptr vs = StringsAt is off k 0 vs

-- a global's string: item k is the one put at off of the image, and carries the folded string
abbrev pub ValueAt : List Item → ℕ → ℕ → ConstVal → Type 0
ValueAt is off k (v_int x) = Unit {0}
ValueAt is off k (v_real x) = Unit {0}
ValueAt is off k (v_str s) = Put is k None (str_item off s)

-- a global's array: item k carries the array's length, and start is where its part starts
abbrev pub ItemAt : List Item → ℕ → ℕ → ℕ → Init → Type 0
ItemAt is off k start no_init = Unit {0}
ItemAt is off k start (const_init v) = ValueAt is off k v
ItemAt is off k start (array_init a) =
    Put is k None (array_item off a.kind a.count) × (part_of is k ≡ start) × ElementsAt is off (suc (suc k)) a.kind a.values
ItemAt is off k start pending_init = Unit {0}

abbrev pub ItemsAt : List Item → List LaidGlobal → Type 0
ItemsAt is [] = Unit {0}
ItemsAt is (l ∷ ls) = ItemAt is l.offset l.item l.start l.global.first × ItemsAt is ls

-- ---- globals and their `var` lines

-- x stands in a list
pub record In {A : Type 0} (x : A) (xs : List A) : Type 0 where
  pub index : ℕ
  pub there : slice_get xs index ≡ Some x

-- a global is one of the names of a `var` line among vs, has that line's type, and its first value is that of the line's own expression
pub record DeclaredAt (ns : Names) (vs : List (Located VarDecl)) (d : Declared) : Type 0 where
  pub line : Located VarDecl
  pub counts : In line vs
  pub named : In d.name (laid_names line.it.names)
  pub same_type : d.ty ≡ line.it.ty
  pub value : init_of ns line.it.ty line.it.init ≡ ok d.first

abbrev pub AllDeclared : Names → List (Located VarDecl) → List Declared → Type 0
AllDeclared ns vs [] = Unit {0}
AllDeclared ns vs (d ∷ ds) = DeclaredAt ns vs d × AllDeclared ns vs ds

abbrev pub global_of : LaidGlobal → Global
global_of l = record { name = l.global.name; offset = l.offset; ty = l.global.ty }

-- ---- records

-- the fields of the `adt` line that fills a key, none where a `pick` line does, or o where this line does not
abbrev pub filled_by : Bytes → Option (List Fd) → AdtDecl → Option (List Fd)
filled_by k o d = cond (seen k (records_of d)) (adt_fields d.pick) o
  where
    adt_fields : Option (List Case) → Option (List Fd)
    adt_fields None = Some d.fields
    adt_fields (Some ks) = None

abbrev pub filling : Bytes → Option (List Fd) → List AdtDecl → Option (List Fd)
filling k o [] = o
filling k o (d ∷ ds) = filling k (filled_by k o d) ds

-- a name with its type
pub record Typed : Type 0 where
  pub name : Bytes
  pub ty : Ty

abbrev pub typed_names : Option Ty → List Bytes → List Typed
typed_names None ns = []
typed_names (Some t) ns = map (λ (n : Bytes). record { name = n; ty = t }) ns

-- the typed fields of an `adt` line, in order
abbrev pub typed_fields : List Fd → List Typed
typed_fields fs = concat_map (λ (f : Fd). typed_names f.ty f.names) fs

abbrev pub typed_of : PlacedField → Typed
typed_of p = record { name = p.name; ty = p.ty }

-- each field begins where the one before it has ended, or later, and ends inside size
abbrev pub InOrder : ℕ → ℕ → List PlacedField → Type 0
InOrder end size [] = Unit {0}
InOrder end size (p ∷ ps) = (end ≤ p.offset) × (p.offset + size_of p.ty ≤ size) × InOrder (p.offset + size_of p.ty) size ps

-- whether a pointer starts at an offset; a tuple counts as one
abbrev pub pointer_at : ℕ → PlacedField → Bool
pointer_at off p = is_ptr p.ty && eqb p.offset off

-- bit w of a map, bit 7 first
abbrev pub bit_at : Bytes → ℕ → ℕ
bit_at m w = get_or m (w / 8) 0 / 2 ^ (7 - w % 8) % 2

-- fields lie apart, in order, inside the size, and a word is marked exactly where a pointer starts
pub record Apart (fs : List Fd) (r : Recorded) : Type 0 where
  pub same_fields : map typed_of r.fields ≡ typed_fields fs
  pub in_order : InOrder 0 r.shape.size r.fields
  pub marks : (w : ℕ) → bit_at (map_of r.shape) w ≡ cond (any (pointer_at (w * 4)) r.fields) 1 0

abbrev pub AllApart : List AdtDecl → List Recorded → Type 0
AllApart ds [] = Unit {0}
AllApart ds (r ∷ rs) = ((fs : List Fd) → filling r.key None ds ≡ Some fs → Apart fs r) × AllApart ds rs

-- ---- demand 3

-- every byte of the image and of the area, and how many there are; these are the sheet's places, and each handle's item is the
-- sheet's item put at the handle's own place
pub record EveryByte (s : Source) (image area : Bytes) : Type 0 where
  pub image_long : length image ≡ image_end 0 (laid_of s)
  pub area_long : length area ≡ area_end 0 (laid_of s)
  pub image_at : (p : ℕ) → get_or image p 0 ≡ image_byte (laid_of s) p
  pub area_at : (p : ℕ) → get_or area p 0 ≡ area_byte (laid_of s) p
  pub places : (source_globals s).places ≡ map global_of (laid_of s)
  pub items : ItemsAt (source_globals s).items (laid_of s)

pub record WholeImage (s : Source) (image area : Bytes) : Type 0 where
  -- where no global's name stands twice and each first value is of its type's kind
  pub every_byte : names_distinct (source_declared s) ≡ true → kinds_fit (source_declared s) ≡ true → EveryByte s image area
  -- each global is a name of a `var` line that counts, with the first value of that line's own expression
  pub lines : AllDeclared (names_of s) (laid_vars s) (source_declared s)
  -- and every name of these lines but `nil` is a global, in order
  pub names : map (λ (d : Declared). d.name) (source_declared s) ≡ concat_map (λ (v : Located VarDecl). laid_names v.it.names) (laid_vars s)
  -- a first value that is no array is what its expression folds to
  pub folded : (t : Ty) (e : Ex) (v : ConstVal) → init_of (names_of s) t (Some e) ≡ ok (const_init v) → fold_at0 (names_of s) e ≡ ok v
  -- one that is an array has its length, its elements' kind where the type declares one, and index by index the value last given, or
  -- else the filler
  pub elements : (t : Ty) (e : Ex) (a : ConstArray) → init_of (names_of s) t (Some e) ≡ ok (array_init a) → GivenBy (names_of s) (elem_of t) e a
  -- each record that an `adt` line fills
  pub records_apart : AllApart (recorded_adts s) (records (recorded_adts s))

-- of a sheet that neither compiling nor replay refuses
abbrev pub Demand : Type 0
Demand = (b : Buffers) (s image area : Bytes) → imaged b s ≡ laid image area → WholeImage (sheet_source s) image area
