-- Every line of the listing.
use Rattle.std.specs.Prelude.{ℕ, suc, Bool, true, false, not, cond, List, [], ◌∷◌, ◌++◌, map, length, Float, Option, None, Some}
use Rattle.semantics.specs.Text.{Bytes, bytes, any, filter, is_none, decimal, decimalℤ, hex_of}
use Rattle.semantics.specs.Tree.{ConstVal, Shape, TypeKey}
use Rattle.semantics.specs.Tree.ConstVal.{v_int, v_real, v_str}
use Rattle.semantics.specs.Tree.TypeKey.{elem_key}
use Rattle.semantics.specs.Sheet.{Source, concat_map}
use Rattle.semantics.specs.Layout.{PlacedField, Recorded, recorded_adts, records, size_of, is_ptr, map_of, pointer_count}
use Rattle.semantics.specs.Fold.{Key, Const, same_key, look_up, value_of, real_bytes}
use Rattle.semantics.specs.Global.{Values, Item, Global, Globals, global_size}
use Rattle.semantics.specs.Global.Values.{byte_values, word_values, big_values, real_values}
use Rattle.semantics.specs.Global.Item.{values_item, str_item, array_item, set_item, back_item}
use Rattle.semantics.specs.Types.{id_of, descriptors}

-- a line of fields
unfoldable pub row : List Bytes → Bytes
row [] = 10 ∷ []
row (f ∷ []) = f ++ (10 ∷ [])
row (f ∷ (g ∷ fs)) = f ++ (44 ∷ row (g ∷ fs))

-- 16 hex digits
abbrev pub real_text : Float → Bytes
real_text x = hex_of (real_bytes x)

abbrev pub map_text : Shape → Bytes
map_text s = hex_of (map_of s)

-- ---- records: rec,KEY,TAG,GROUP,SIZE,MAP, then fld,NAME,OFFSET,SIZE each

abbrev pub field_row : PlacedField → Bytes
field_row p = row (bytes "fld" ∷ p.name ∷ decimal p.offset ∷ decimal (size_of p.ty) ∷ [])

unfoldable pub record_rows : Recorded → Bytes
record_rows r =
    row (bytes "rec" ∷ r.key ∷ decimalℤ r.tag ∷ decimalℤ r.group ∷ decimal r.shape.size ∷ map_text r.shape ∷ [])
    ++ concat_map field_row r.fields

-- ---- constants: con,NAME, then i, r, s with the value, or x

abbrev pub key_text : Key → Bytes
key_text k = prefix k.within ++ k.name
  where
    prefix : Option Bytes → Bytes
    prefix None = []
    prefix (Some m) = m ++ bytes "->"

abbrev pub value_fields : Option ConstVal → List Bytes
value_fields None = bytes "x" ∷ []
value_fields (Some (v_int z)) = bytes "i" ∷ decimalℤ z ∷ []
value_fields (Some (v_real x)) = bytes "r" ∷ real_text x ∷ []
value_fields (Some (v_str s)) = bytes "s" ∷ hex_of s ∷ []

-- each key of a log, newest first, once: in the order of first insertion
abbrev pub keys_in : List Const → List Key
keys_in [] = []
keys_in (c ∷ cs) = let older = keys_in cs in cond (any (same_key c.key) older) older (older ++ (c.key ∷ []))

abbrev pub is_plain : Key → Bool
is_plain k = is_none k.within

abbrev pub const_row : List Const → Key → Bytes
const_row cs k = row (bytes "con" ∷ key_text k ∷ value_fields (value_of (look_up k cs)))

-- all M->NAME first, then plain
unfoldable pub const_rows : List Const → Bytes
const_rows cs =
    concat_map (const_row cs) (filter (λ (k : Key). not (is_plain k)) (keys_in cs))
    ++ concat_map (const_row cs) (filter is_plain (keys_in cs))

-- ---- globals: glo,NAME,OFFSET,SIZE,P, then pend,NAME

abbrev pub flag : Bool → Bytes
flag true = bytes "1"
flag false = bytes "0"

unfoldable pub global_row : Global → Bytes
global_row g = row (bytes "glo" ∷ g.name ∷ decimal g.offset ∷ decimal (global_size g.ty) ∷ flag (is_ptr g.ty) ∷ [])

abbrev pub pend_row : Bytes → Bytes
pend_row n = row (bytes "pend" ∷ n ∷ [])

-- ---- data items

-- kind, N and the values
abbrev pub values_fields : Values → Bytes × ℕ × List Bytes
values_fields (byte_values vs) = (bytes "bytes", length vs, map decimal vs)
values_fields (word_values vs) = (bytes "words", length vs, map decimalℤ vs)
values_fields (big_values vs) = (bytes "bigs", length vs, map decimalℤ vs)
values_fields (real_values vs) = (bytes "reals", length vs, map real_text vs)

-- what stands behind `dat`; an array's ID is that of its element key
abbrev pub item_fields : (TypeKey → ℕ) → Item → List Bytes
item_fields id (values_item o vs) = let f = values_fields vs in f.0 ∷ decimal o ∷ decimal f.1 ∷ f.2
item_fields id (str_item o s) = bytes "str" ∷ decimal o ∷ hex_of s ∷ []
item_fields id (array_item o k n) = bytes "array" ∷ decimal o ∷ decimal (id (elem_key k)) ∷ decimal n ∷ []
item_fields id (set_item o) = bytes "set" ∷ decimal o ∷ bytes "0" ∷ []
item_fields id back_item = bytes "back" ∷ []

unfoldable pub item_row : (TypeKey → ℕ) → Item → Bytes
item_row id i = row (bytes "dat" ∷ item_fields id i)

-- ---- types: typ,ID,SIZE,COUNT,MAP, then use,ID

unfoldable pub type_rows : ℕ → List Shape → Bytes
type_rows id [] = []
type_rows id (s ∷ ss) =
    row (bytes "typ" ∷ decimal id ∷ decimal s.size ∷ decimal (pointer_count (map_of s)) ∷ map_text s ∷ [])
    ++ type_rows (suc id) ss

unfoldable pub use_row : (TypeKey → ℕ) → TypeKey → Bytes
use_row id k = row (bytes "use" ∷ decimal (id k) ∷ [])

-- ---- the whole

unfoldable pub listing : Source → List Const → Globals → Bytes
listing s cs g =
    concat_map record_rows (records (recorded_adts s))
    ++ const_rows cs
    ++ concat_map global_row g.places
    ++ concat_map pend_row g.pends
    ++ concat_map (item_row (id_of s g.items)) g.items
    ++ type_rows 0 (descriptors s g.items)
    ++ concat_map (use_row (id_of s g.items)) s.needs
