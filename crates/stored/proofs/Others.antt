-- Rows other than `dat` hold no items, and rows other than `typ` no sizes; the whole listing.
use Prim.Native.Nat.{ℕ, zero, suc, ◌+◌, ◌<◌, min}
use native.Mathlib.Omega.{arith}
use mathlib.Core.Path.{◌≡◌, refl, sym, ap, ◌∙◌}
use mathlib.Core.Bool.{Bool, true, false, not, cond}
use mathlib.Core.List.{List, [], ◌∷◌, ◌++◌, map, append_assoc, append-nil}
use Rattle.std.specs.Prelude.{Option, None, Some}
use lib.Dec.{eqb}
use lib.ListN.{length, get_or}
use lib.Ieee.{binary64, to_bits}
use Rattle.semantics.specs.Types.{id_of, descriptors}
use borrow.Author.Tests.{eq-eqb, ne_eqb, lt-ltb}
use Rattle.semantics.specs.Text.{Bytes, bytes, same, filter, decimal, decimalℤ, big_endian, line_parts}
use Rattle.semantics.specs.Tree.{Shape, TypeKey, ConstVal}
use Rattle.semantics.specs.Tree.ConstVal.{v_int, v_real, v_str}
use Rattle.semantics.specs.Layout.{PlacedField, Recorded, records, recorded_adts, size_of, is_ptr, map_of, pointer_count}
use Rattle.semantics.specs.Fold.{Key, Const, look_up, value_of}
use Rattle.semantics.specs.Sheet.{Source, concat_map}
use Rattle.semantics.specs.Global.{Item, Global, Globals, global_size}
use Rattle.semantics.specs.Listing.{row, map_text, flag, value_fields, keys_in, item_fields, is_plain, listing, field_row, record_rows, key_text, const_row, const_rows, global_row, pend_row, type_rows, use_row, item_row}
use Rattle.write.specs.Plain.{is_plain_text}
use Rattle.write.proofs.Uncut.{decimal-plain, integer-plain, hex-plain}
use Rattle.stored.specs.Stored.{Stored, stored_of}
use Rattle.stored.specs.Reading.{read_row, read_rows, read_all, largest_size, size_by, size_rows, most_types, size_in}
use Rattle.stored.proofs.Rows.{Plain, read-row, size-row}
use Rattle.stored.proofs.Items.{Readable, number-back, items-read, item-plain}
use Rattle.laws.specs.Every.{Every}
use Rattle.laws.proofs.Every.{every-filter}

-- a text of rows of plain fields, each with a first word that differs from w
pub data Rows (w : Bytes) : Bytes → Type 0 where
  no_rows : Rows w []
  one_row : (f : Bytes) (fs : List Bytes) (rest : Bytes) → same f w ≡ false → Plain (f ∷ fs) → Rows w rest → Rows w (row (f ∷ fs) ++ rest)

rows_join : {w s t : Bytes} → Rows w s → Rows w t → Rows w (s ++ t)
rows_join no_rows k = k
rows_join {w} {s} {t} (one_row f fs rest d h r) k = rw (append_assoc (row (f ∷ fs)) rest t) (one_row f fs (rest ++ t) d h (rows_join r k))

-- one row
rows-one : {w : Bytes} (f : Bytes) (fs : List Bytes) → same f w ≡ false → Plain (f ∷ fs) → Rows w (row (f ∷ fs))
rows-one {w} f fs d h = rw append-nil at (one_row f fs [] d h no_rows)

-- ---- such rows are passed over

not-dat : (sizes : ℕ → ℕ) (f : Bytes) (fs : List Bytes) → same f (bytes "dat") ≡ false → read_row sizes (f ∷ fs) ≡ []
unfolding read_row
not-dat sizes f fs d = rw d

not-typ : (i : ℕ) (f : Bytes) (fs : List Bytes) (d : ℕ) → same f (bytes "typ") ≡ false → size_by i (f ∷ fs) d ≡ d
unfolding size_by
not-typ i f fs d h = rw h

items-none : (sizes : ℕ → ℕ) {s : Bytes} (rest : Bytes) → Rows (bytes "dat") s → read_all sizes (s ++ rest) ≡ read_all sizes rest
items-none sizes rest no_rows = refl
items-none sizes rest (one_row f fs s d h r) =
    ap (read_all sizes) (append_assoc (row (f ∷ fs)) s rest)
    ∙ read-row sizes f fs (s ++ rest) h
    ∙ ap (λ (xs : List Stored). xs ++ read_all sizes (s ++ rest)) (not-dat sizes f fs d)
    ∙ items-none sizes rest r

sizes-none : (i d : ℕ) {s : Bytes} (rest : Bytes) → Rows (bytes "typ") s → size_rows i d (line_parts (s ++ rest)) ≡ size_rows i d (line_parts rest)
sizes-none i d rest no_rows = refl
sizes-none i d rest (one_row f fs s e h r) =
    ap (λ (t : Bytes). size_rows i d (line_parts t)) (append_assoc (row (f ∷ fs)) s rest)
    ∙ size-row i d f fs (s ++ rest) h
    ∙ ap (λ (x : ℕ). size_rows i x (line_parts (s ++ rest))) (not-typ i f fs d e)
    ∙ sizes-none i d rest r

-- nothing
pub items-end : (sizes : ℕ → ℕ) → read_all sizes [] ≡ []
unfolding read_all read_rows read_row
items-end sizes = refl

pub sizes-end : (i d : ℕ) → size_rows i d (line_parts []) ≡ d
unfolding size_rows size_by
sizes-end i d = refl

-- ---- sizes by number

-- the fields of a `typ` row
abbrev type_fields : ℕ → Shape → List Bytes
type_fields id s = decimal id ∷ decimal s.size ∷ decimal (pointer_count (map_of s)) ∷ map_text s ∷ []

type-plain : (id : ℕ) (s : Shape) → Plain (bytes "typ" ∷ type_fields id s)
unfolding is_plain_text
type-plain id s = (refl, (decimal-plain id, (decimal-plain s.size, (decimal-plain (pointer_count (map_of s)), (hex-plain (map_of s), tt)))))

type-size : (i id : ℕ) (s : Shape) (d : ℕ) → size_by i (bytes "typ" ∷ type_fields id s) d ≡ cond (eqb id i) (min s.size largest_size) d
unfolding size_by
type-size i id s d = λ j. cond (eqb (number-back id j) i) (min (number-back s.size j) largest_size) d

type_row : (i d id : ℕ) (s : Shape) (ss : List Shape) (rest : Bytes)
    → size_rows i d (line_parts (type_rows id (s ∷ ss) ++ rest)) ≡ size_rows i (cond (eqb id i) (min s.size largest_size) d) (line_parts (type_rows (suc id) ss ++ rest))
unfolding type_rows
type_row i d id s ss rest =
    ap (λ (t : Bytes). size_rows i d (line_parts t)) (append_assoc (row (bytes "typ" ∷ type_fields id s)) (type_rows (suc id) ss) rest)
    ∙ size-row i d (bytes "typ") (type_fields id s) (type_rows (suc id) ss ++ rest) (type-plain id s)
    ∙ ap (λ (x : ℕ). size_rows i x (line_parts (type_rows (suc id) ss ++ rest))) (type-size i id s d)

-- numbers from id on leave those below
types-above : (i d id : ℕ) (ss : List Shape) (rest : Bytes) → i < id → size_rows i d (line_parts (type_rows id ss ++ rest)) ≡ size_rows i d (line_parts rest)
unfolding type_rows
types-above i d id [] rest h = refl
types-above i d id (s ∷ ss) rest h =
    type_row i d id s ss rest
    ∙ ap (λ (b : Bool). size_rows i (cond b (min s.size largest_size) d) (line_parts (type_rows (suc id) ss ++ rest))) (ne_eqb id i (λ (e : id ≡ i). omega arith))
    ∙ types-above i d (suc id) ss rest (omega arith)

pub no-shape : Shape
no-shape = record { size = 0; pointers = [] }

-- the rows of shapes from id on give the shape's size at its place
types-size : (j d id : ℕ) (ss : List Shape) (rest : Bytes) → j < length ss
    → size_rows (id + j) d (line_parts (type_rows id ss ++ rest)) ≡ size_rows (id + j) (min (get_or ss j no-shape).size largest_size) (line_parts rest)
types-size j d id [] rest h = absurd (omega arith)
types-size zero d id (s ∷ ss) rest h =
    let e : id ≡ id + 0 = omega arith in
    type_row (id + 0) d id s ss rest
    ∙ ap (λ (b : Bool). size_rows (id + 0) (cond b (min s.size largest_size) d) (line_parts (type_rows (suc id) ss ++ rest))) (eq-eqb id (id + 0) e)
    ∙ types-above (id + 0) (min s.size largest_size) (suc id) ss rest (omega arith)
types-size (suc j) d id (s ∷ ss) rest h =
    let e : id + suc j ≡ suc id + j = omega arith in
    type_row (id + suc j) d id s ss rest
    ∙ ap (λ (k : ℕ). size_rows k (cond (eqb id (id + suc j)) (min s.size largest_size) d) (line_parts (type_rows (suc id) ss ++ rest))) e
    ∙ types-size j (cond (eqb id (id + suc j)) (min s.size largest_size) d) (suc id) ss rest (omega arith)
    ∙ ap (λ (k : ℕ). size_rows k (min (get_or ss j no-shape).size largest_size) (line_parts rest)) (sym e)

-- ---- the rows of each kind

dat-rows : (id : TypeKey → ℕ) (is : List Item) → Rows (bytes "typ") (concat_map (item_row id) is)
unfolding item_row is_plain_text
dat-rows id [] = no_rows
dat-rows id (i ∷ is) = rows_join (rows-one (bytes "dat") (item_fields id i) refl (refl, item-plain id i)) (dat-rows id is)

type-rows : (id : ℕ) (ss : List Shape) → Rows (bytes "dat") (type_rows id ss)
unfolding type_rows
type-rows id [] = no_rows
type-rows id (s ∷ ss) = rows_join (rows-one (bytes "typ") (type_fields id s) refl (type-plain id s)) (type-rows (suc id) ss)

-- a word that no row of the other kinds begins with
record OwnKeyword (w : Bytes) : Type 0 where
  uses : same (bytes "use") w ≡ false
  pends : same (bytes "pend") w ≡ false
  places : same (bytes "glo") w ≡ false
  consts : same (bytes "con") w ≡ false
  records : same (bytes "rec") w ≡ false
  fields : same (bytes "fld") w ≡ false

-- records, constants and globals with plain names
abbrev pub PlainRecord : Recorded → Type 0
PlainRecord r = (is_plain_text r.key ≡ true) × Every (λ (p : PlacedField). is_plain_text p.name ≡ true) r.fields

pub record PlainNames (s : Source) (cs : List Const) (g : Globals) : Type 0 where
  pub records : Every PlainRecord (records (recorded_adts s))
  pub consts : Every (λ (k : Key). is_plain_text (key_text k) ≡ true) (keys_in cs)
  pub places : Every (λ (p : Global). is_plain_text p.name ≡ true) g.places
  pub pends : Plain g.pends

flag-plain : (b : Bool) → is_plain_text (flag b) ≡ true
unfolding is_plain_text
flag-plain true = refl
flag-plain false = refl

value-plain : (v : Option ConstVal) → Plain (value_fields v)
unfolding is_plain_text to_bits
value-plain None = (refl, tt)
value-plain (Some (v_int z)) = (refl, (integer-plain z, tt))
value-plain (Some (v_real x)) = (refl, (hex-plain (big_endian 8 (to_bits binary64 x)), tt))
value-plain (Some (v_str s)) = (refl, (hex-plain s, tt))

-- the rows in front of the items
abbrev front_of : Source → List Const → Globals → Bytes
front_of s cs g = concat_map record_rows (records (recorded_adts s)) ++ const_rows cs ++ concat_map global_row g.places ++ concat_map pend_row g.pends

module _ {w : Bytes} (a : OwnKeyword w) where
  use-rows : (id : TypeKey → ℕ) (ks : List TypeKey) → Rows w (concat_map (use_row id) ks)
  unfolding use_row is_plain_text
  use-rows id [] = no_rows
  use-rows id (k ∷ ks) = rows_join (rows-one (bytes "use") (decimal (id k) ∷ []) a.uses (refl, (decimal-plain (id k), tt))) (use-rows id ks)

  pend-rows : (ns : List Bytes) → Plain ns → Rows w (concat_map pend_row ns)
  unfolding is_plain_text
  pend-rows [] h = no_rows
  pend-rows (n ∷ ns) h = rows_join (rows-one (bytes "pend") (n ∷ []) a.pends (refl, (h.0, tt))) (pend-rows ns h.1)

  global-rows : (gs : List Global) → Every (λ (g : Global). is_plain_text g.name ≡ true) gs → Rows w (concat_map global_row gs)
  unfolding global_row is_plain_text
  global-rows [] h = no_rows
  global-rows (g ∷ gs) h =
      rows_join
      (rows-one (bytes "glo") (g.name ∷ decimal g.offset ∷ decimal (global_size g.ty) ∷ flag (is_ptr g.ty) ∷ []) a.places
      (refl, (h.0, (decimal-plain g.offset, (decimal-plain (global_size g.ty), (flag-plain (is_ptr g.ty), tt))))))
      (global-rows gs h.1)

  const-rows : (cs : List Const) (ks : List Key) → Every (λ (k : Key). is_plain_text (key_text k) ≡ true) ks → Rows w (concat_map (const_row cs) ks)
  unfolding is_plain_text
  const-rows cs [] h = no_rows
  const-rows cs (k ∷ ks) h =
      rows_join (rows-one (bytes "con") (key_text k ∷ value_fields (value_of (look_up k cs))) a.consts (refl, (h.0, value-plain (value_of (look_up k cs))))) (const-rows cs ks h.1)

  all-consts : (cs : List Const) → Every (λ (k : Key). is_plain_text (key_text k) ≡ true) (keys_in cs) → Rows w (const_rows cs)
  unfolding const_rows
  all-consts cs h =
      rows_join
      (const-rows cs (filter (λ (k : Key). not (is_plain k)) (keys_in cs)) (every-filter _ _ (keys_in cs) h))
      (const-rows cs (filter is_plain (keys_in cs)) (every-filter _ _ (keys_in cs) h))

  field-rows : (ps : List PlacedField) → Every (λ (p : PlacedField). is_plain_text p.name ≡ true) ps → Rows w (concat_map field_row ps)
  unfolding is_plain_text
  field-rows [] h = no_rows
  field-rows (p ∷ ps) h =
      rows_join
      (rows-one (bytes "fld") (p.name ∷ decimal p.offset ∷ decimal (size_of p.ty) ∷ []) a.fields (refl, (h.0, (decimal-plain p.offset, (decimal-plain (size_of p.ty), tt)))))
      (field-rows ps h.1)

  record-rows : (rs : List Recorded) → Every PlainRecord rs → Rows w (concat_map record_rows rs)
  unfolding record_rows is_plain_text
  record-rows [] h = no_rows
  record-rows (r ∷ rs) h =
      rows_join
      (rows_join
      (rows-one (bytes "rec") (r.key ∷ decimalℤ r.tag ∷ decimalℤ r.group ∷ decimal r.shape.size ∷ map_text r.shape ∷ []) a.records
      (refl, (h.0.0, (integer-plain r.tag, (integer-plain r.group, (decimal-plain r.shape.size, (hex-plain (map_of r.shape), tt)))))))
      (field-rows r.fields h.0.1))
      (record-rows rs h.1)

  front-rows : (s : Source) (cs : List Const) (g : Globals) → PlainNames s cs g
      → Rows w (front_of s cs g)
  front-rows s cs g h =
      rows_join (rows_join (rows_join (record-rows (records (recorded_adts s)) h.records) (all-consts cs h.consts)) (global-rows g.places h.places)) (pend-rows g.pends h.pends)

-- ---- the whole listing

module _ (s : Source) (cs : List Const) (g : Globals) (plain : PlainNames s cs g) where
  -- what is stored of its items, in order
  pub listing-read : (sizes : ℕ → ℕ) → Every (Readable sizes (id_of s g.items)) g.items → read_all sizes (listing s cs g) ≡ map stored_of g.items
  unfolding listing
  listing-read sizes h =
      let apart : OwnKeyword (bytes "dat") = record { uses = refl; pends = refl; places = refl; consts = refl; records = refl; fields = refl } in
      let id = id_of s g.items in
      let ts = type_rows 0 (descriptors s g.items) in
      let us = concat_map (use_row id) s.needs in
      let behind : read_all sizes (ts ++ us) ≡ [] =
      ap (read_all sizes) (sym (append-nil (ts ++ us))) ∙ items-none sizes [] (rows_join (type-rows 0 (descriptors s g.items)) (use-rows apart id s.needs)) ∙ items-end sizes in
      let front = front_of s cs g in
      let dats = concat_map (item_row id) g.items in
      (ap (read_all sizes) (append_assoc (front ++ dats) ts us ∙ append_assoc front dats (ts ++ us))
      ∙ items-none sizes (concat_map (item_row id) g.items ++ (ts ++ us)) (front-rows apart s cs g plain)
      ∙ items-read sizes id g.items (ts ++ us) h
      ∙ ap (λ (xs : List Stored). map stored_of g.items ++ xs) behind
      ∙ append-nil (map stored_of g.items))

  -- the size of each descriptor by its ID
  pub listing-size : (i : ℕ) → i < most_types → i < length (descriptors s g.items)
      → size_in (listing s cs g) i ≡ min (get_or (descriptors s g.items) i no-shape).size largest_size
  unfolding listing size_in
  listing-size i l h =
      let apart : OwnKeyword (bytes "typ") = record { uses = refl; pends = refl; places = refl; consts = refl; records = refl; fields = refl } in
      let id = id_of s g.items in
      let ds = descriptors s g.items in
      let us = concat_map (use_row id) s.needs in
      let e : 0 + i ≡ i = omega arith in
      let size = min (get_or ds i no-shape).size largest_size in
      rw (lt-ltb i most_types l)
      (ap (λ (t : Bytes). size_rows i 0 (line_parts t)) (append_assoc (front_of s cs g ++ concat_map (item_row id) g.items) (type_rows 0 ds) us)
      ∙ sizes-none i 0 (type_rows 0 ds ++ us) (rows_join (front-rows apart s cs g plain) (dat-rows id g.items))
      ∙ (rw e at (types-size i 0 0 ds us h))
      ∙ ap (λ (t : Bytes). size_rows i size (line_parts t)) (sym (append-nil us))
      ∙ sizes-none i size [] (use-rows apart id s.needs)
      ∙ sizes-end i size)
