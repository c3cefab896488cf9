-- Record lines: where fields lie, a record's size and its pointer map, and the records of a sheet.
use Rattle.std.specs.Prelude.{ℕ, zero, suc, ◌+◌, ◌-◌, ◌*◌, ◌/◌, ◌^◌, max, Bool, true, false, ◌&&◌, cond, List, [], ◌∷◌, ◌++◌, map, length, ℤ, pos, negsuc, leb, eqb, Option, None, Some}
use Rattle.std.specs.Int.Count.{ones_in}
use Rattle.semantics.specs.Text.{Bytes, same, any}
use Rattle.semantics.specs.Tree.{Basic, Ty, Tys, Fd, Case, AdtDecl, Shape}
use Rattle.semantics.specs.Tree.Basic.{int, byte, big, real, string}
use Rattle.semantics.specs.Tree.Ty.{basic, ptr, array, tuple}
use Rattle.semantics.specs.Tree.Tys.{no_tys, and_ty}
use Rattle.semantics.specs.Sheet.{Located, Source, concat_map}

-- ---- sizes and alignments

-- the least multiple of a that is not below n
abbrev pub align_up : ℕ → ℕ → ℕ
align_up a n = (n + (a - 1)) / a * a

-- a size: at least 4, rounded up to 4
abbrev pub rounded_size : ℕ → ℕ
rounded_size end = align_up 4 (max end 4)

abbrev pub basic_size : Basic → ℕ
basic_size int = 4
basic_size byte = 4
basic_size big = 8
basic_size real = 8
basic_size string = 4

abbrev mutual
  pub align_of : Ty → ℕ
  align_of (basic b) = basic_size b
  align_of ptr = 4
  align_of (array t) = 4
  align_of (tuple ts) = align_of_all ts

  pub align_of_all : Tys → ℕ
  align_of_all no_tys = 4
  align_of_all (and_ty t ts) = max (align_of t) (align_of_all ts)

abbrev mutual
  pub size_of : Ty → ℕ
  size_of (basic b) = basic_size b
  size_of ptr = 4
  size_of (array t) = 4
  size_of (tuple ts) = rounded_size (end_of_all ts 0)

  -- where fields of these types end that begin at off, each aligned
  pub end_of_all : Tys → ℕ → ℕ
  end_of_all no_tys off = off
  end_of_all (and_ty t ts) off = end_of_all ts (align_up (align_of t) off + size_of t)

-- ---- pointers

abbrev pub basic_is_ptr : Basic → Bool
basic_is_ptr int = false
basic_is_ptr byte = false
basic_is_ptr big = false
basic_is_ptr real = false
basic_is_ptr string = true

-- pointers are all types but int, byte, big, real
abbrev pub is_ptr : Ty → Bool
is_ptr (basic b) = basic_is_ptr b
is_ptr ptr = true
is_ptr (array t) = true
is_ptr (tuple ts) = true

-- the offsets that a type marks when it lies at off: its first word, a tuple's too
abbrev pub marks_of : Ty → ℕ → List ℤ
marks_of t off = cond (is_ptr t) (pos off ∷ []) []

-- ---- pointer maps (dis(6))

-- whether an offset marks word w: not where it is below 0 or its word passes the size
abbrev pub marks : ℕ → ℕ → ℤ → Bool
marks size w (pos off) = leb (off + 4) size && eqb (off / 4) w
marks size w (negsuc n) = false

-- whether word w of a block of this size holds one of these offsets
abbrev pub marked : ℕ → List ℤ → ℕ → Bool
marked size offs w = any (marks size w) offs

-- the d words from w on, bit d - 1 first
unfoldable pub map_bits : ℕ → List ℤ → ℕ → ℕ → ℕ
map_bits size offs zero w = 0
map_bits size offs (suc d) w = cond (marked size offs w) (2 ^ d) 0 + map_bits size offs d (suc w)

-- 8 words a byte, n bytes from word w on
abbrev pub map_bytes : ℕ → List ℤ → ℕ → ℕ → Bytes
map_bytes size offs zero w = []
map_bytes size offs (suc n) w = map_bits size offs 8 w ∷ map_bytes size offs n (w + 8)

-- a word per 4 bytes of size, rounded up
abbrev pub words_of : ℕ → ℕ
words_of size = (size + 3) / 4

-- and a byte per 8 words, rounded up
unfoldable pub map_length : ℕ → ℕ
map_length size = (words_of size + 7) / 8

unfoldable pub pointer_map : ℕ → List ℤ → Bytes
pointer_map size offs = map_bytes size offs (map_length size) 0

abbrev pub map_of : Shape → Bytes
map_of s = pointer_map s.size s.pointers

-- the ones of a map
unfoldable pub pointer_count : Bytes → ℕ
pointer_count [] = 0
pointer_count (b ∷ bs) = ones_in 8 b + pointer_count bs

-- ---- the fields of a record

-- a field, and where it begins
pub record PlacedField : Type 0 where
  pub name : Bytes
  pub ty : Ty
  pub offset : ℕ

-- fields, and where the next one may begin, which a line without names moves on too
pub record Placing : Type 0 where
  pub placed : List PlacedField
  pub end : ℕ

abbrev pub with_field : PlacedField → Placing → Placing
with_field p r = record { placed = p ∷ r.placed; end = r.end }

-- the names of an `fd` line, one behind the other
abbrev pub place_names : Ty → ℕ → List Bytes → Placing
place_names t off [] = record { placed = []; end = off }
place_names t off (n ∷ ns) = with_field (record { name = n; ty = t; offset = off }) (place_names t (off + size_of t) ns)

-- alignment is done once, before the first name, also where there is none; an untyped line is skipped
abbrev pub place_line : Option Ty → List Bytes → ℕ → Placing
place_line None ns off = record { placed = []; end = off }
place_line (Some t) ns off = place_names t (align_up (align_of t) off) ns

abbrev pub joined : Placing → Placing → Placing
joined r s = record { placed = r.placed ++ s.placed; end = s.end }

abbrev pub place : ℕ → List Fd → Placing
place off [] = record { placed = []; end = off }
place off (f ∷ fs) = let r = place_line f.ty f.names off in joined r (place r.end fs)

-- ---- size and pointers

-- the furthest end of fields, at least `end`
abbrev pub furthest : ℕ → List PlacedField → ℕ
furthest end [] = end
furthest end (p ∷ ps) = furthest (max end (p.offset + size_of p.ty)) ps

abbrev pub pointers_of : List PlacedField → List ℤ
pointers_of ps = concat_map (λ (p : PlacedField). marks_of p.ty p.offset) ps

-- the shape of a record whose fields begin at `base`
unfoldable pub shape_of : ℕ → List PlacedField → Shape
shape_of base ps = record { size = rounded_size (furthest base ps); pointers = pointers_of ps }

-- a record with pick takes the largest size and all variants' pointers
abbrev pub pick_shape : Shape → List Shape → Shape
pick_shape s [] = s
pick_shape s (v ∷ vs) = pick_shape (record { size = max s.size v.size; pointers = s.pointers ++ v.pointers }) vs

-- ---- the records that a declaration makes

-- the record of a key; tag and group are −1 for T itself
pub record Recorded : Type 0 where
  pub key : Bytes
  pub tag : ℤ
  pub group : ℤ
  pub shape : Shape
  pub fields : List PlacedField

abbrev pub plain_record : Bytes → Shape → List PlacedField → Recorded
plain_record t s ps = record { key = t; tag = negsuc 0; group = negsuc 0; shape = s; fields = ps }

-- where fields begin that stand behind the tag word of a record with pick
abbrev pub behind_tag : ℕ
behind_tag = 4

-- a variant's fields: the common ones, then its own
abbrev pub variant_fields : List Fd → Case → List PlacedField
variant_fields common k = let r = place behind_tag common in r.placed ++ (place r.end k.fields).placed

abbrev pub variant_shape : List Fd → Case → Shape
variant_shape common k = shape_of behind_tag (variant_fields common k)

-- a variant of case g for each tag, numbered from n on
abbrev pub variants_of : Bytes → Shape → List PlacedField → ℕ → ℕ → List Bytes → List Recorded
variants_of t s ps g n [] = []
variants_of t s ps g n (x ∷ xs) = record { key = t ++ (46 ∷ x); tag = pos n; group = pos g; shape = s; fields = ps } ∷ variants_of t s ps g (suc n) xs

-- tags count over all cases, groups over cases
abbrev pub cases_from : Bytes → List Fd → ℕ → ℕ → List Case → List Recorded
cases_from t common g n [] = []
cases_from t common g n (k ∷ ks) =
    variants_of t (variant_shape common k) (variant_fields common k) g n k.tags ++ cases_from t common (suc g) (n + length k.tags) ks

abbrev pub with_pick : Bytes → List Fd → List Case → List Recorded
with_pick t fs ks =
    let ps = (place behind_tag fs).placed in
    plain_record t (pick_shape (shape_of behind_tag ps) (map (variant_shape fs) ks)) ps ∷ cases_from t fs 0 0 ks

abbrev pub without_pick : Bytes → List Fd → Recorded
without_pick t fs = let ps = (place 0 fs).placed in plain_record t (shape_of 0 ps) ps

abbrev pub records_for : Bytes → List Fd → Option (List Case) → List Recorded
records_for t fs None = without_pick t fs ∷ []
records_for t fs (Some ks) = with_pick t fs ks

abbrev pub records_of : AdtDecl → List Recorded
records_of d = records_for d.name d.fields d.pick

-- ---- the records of a sheet

-- the declarations that are recorded, in that order
abbrev pub recorded_adts : Source → List AdtDecl
recorded_adts s = map (λ (d : Located AdtDecl). d.it) s.adts

abbrev pub record_log : List AdtDecl → List Recorded
record_log ds = concat_map records_of ds

-- the last record of a key, or else r
abbrev pub last_of : Bytes → Recorded → List Recorded → Recorded
last_of k r [] = r
last_of k r (x ∷ xs) = last_of k (cond (same k x.key) x r) xs

abbrev pub seen : Bytes → List Recorded → Bool
seen k rs = any (λ (r : Recorded). same k r.key) rs

-- each key once, where it was first recorded, with its last record
abbrev pub records_by_key : List Recorded → List Recorded → List Recorded
records_by_key before [] = []
records_by_key before (r ∷ rs) = cond (seen r.key before) (records_by_key (r ∷ before) rs) (last_of r.key r rs ∷ records_by_key (r ∷ before) rs)

unfoldable pub records : List AdtDecl → List Recorded
records ds = records_by_key [] (record_log ds)
