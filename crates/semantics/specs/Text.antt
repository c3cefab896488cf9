-- Bytes as text: parts between separators, decimal and hexadecimal numbers, names, UTF-8.
use Rattle.std.specs.Prelude.{ℕ, zero, suc, ◌+◌, ◌-◌, ◌*◌, ◌/◌, ◌%◌, ◌^◌, Bool, true, false, ◌&&◌, ◌||◌, cond, List, [], ◌∷◌, length, get_or, ℤ, pos, negsuc, leb, ltb, eqb, Option, None, Some}
use Prim.Native.String.{String, [] as empty, ◌∷◌ as character}
use Prim.Native.Char.{code}

abbrev pub Bytes : Type 0
Bytes = List ℕ

-- the code points of a quoted text
abbrev pub bytes : String → Bytes
bytes empty = []
bytes (character c s) = code c ∷ bytes s

abbrev pub same : Bytes → Bytes → Bool
same [] [] = true
same [] (y ∷ ys) = false
same (x ∷ xs) [] = false
same (x ∷ xs) (y ∷ ys) = eqb x y && same xs ys

abbrev pub all {ℓ} : {A : Type ℓ} → (A → Bool) → List A → Bool
all p [] = true
all p (x ∷ xs) = p x && all p xs

abbrev pub any {ℓ} : {A : Type ℓ} → (A → Bool) → List A → Bool
any p [] = false
any p (x ∷ xs) = p x || any p xs

abbrev pub filter {ℓ} : {A : Type ℓ} → (A → Bool) → List A → List A
filter p [] = []
filter p (x ∷ xs) = cond (p x) (x ∷ filter p xs) (filter p xs)

abbrev pub is_none : {A : Type 0} → Option A → Bool
is_none None = true
is_none (Some a) = false

abbrev pub or_else : {A : Type 0} → A → Option A → A
or_else d None = d
or_else d (Some a) = a

abbrev pub map_option : {A B : Type 0} → (A → B) → Option A → Option B
map_option f None = None
map_option f (Some a) = Some (f a)

-- whether there is a value, and it passes a test
abbrev pub holds_of : {A : Type 0} → (A → Bool) → Option A → Bool
holds_of p None = false
holds_of p (Some a) = p a

-- ---- parts

abbrev pub head_part : List Bytes → Bytes
head_part [] = []
head_part (p ∷ ps) = p

abbrev pub tail_parts : List Bytes → List Bytes
tail_parts [] = []
tail_parts (p ∷ ps) = ps

-- parts with one more byte b in front: a separator ends an empty part, any other byte belongs to the first part
abbrev pub cut : Bool → ℕ → List Bytes → List Bytes
cut true b ps = [] ∷ ps
cut false b ps = (b ∷ head_part ps) ∷ tail_parts ps

-- the parts of a text between the bytes c: one more than there are bytes c
abbrev pub parts_at : ℕ → Bytes → List Bytes
parts_at c [] = [] ∷ []
parts_at c (b ∷ bs) = cut (eqb b c) b (parts_at c bs)

-- a sheet's parts between LFs: its lines, and what stands behind the last LF: nothing, or a line that lacks its LF
abbrev pub line_parts : Bytes → List Bytes
line_parts s = parts_at 10 s

-- a line's fields, parted by commas
abbrev pub fields_of : Bytes → List Bytes
fields_of l = parts_at 44 l

-- where part n begins: behind the parts before it and as many separators
abbrev pub part_start : List Bytes → ℕ → ℕ
part_start ps zero = 0
part_start [] (suc n) = 0
part_start (p ∷ ps) (suc n) = length p + 1 + part_start ps n

-- ---- a field of the sheet as that part of the sheet: lines from 1, fields from 0

-- line n, empty where it isn't there. What stands behind the last LF counts as a line: where nothing stands there, its one field is
-- the empty part at the sheet's end, as that of a line that isn't there.
abbrev pub line_text : Bytes → ℕ → Bytes
line_text s zero = []
line_text s (suc n) = get_or (line_parts s) n []

abbrev pub has_line : Bytes → ℕ → Bool
has_line s zero = false
has_line s (suc n) = ltb n (length (line_parts s))

-- whether field i of line n is there
abbrev pub has_field : Bytes → ℕ → ℕ → Bool
has_field s n i = has_line s n && ltb i (length (fields_of (line_text s n)))

-- the field's bytes: none where it isn't there
unfoldable pub field_of : Bytes → ℕ → ℕ → Bytes
field_of s n i = cond (has_field s n i) (get_or (fields_of (line_text s n)) i []) []

-- where it stands in the sheet: at the sheet's end where it isn't there
unfoldable pub field_start : Bytes → ℕ → ℕ → ℕ
field_start s n i = cond (has_field s n i) (part_start (line_parts s) (n - 1) + part_start (fields_of (line_text s n)) i) (length s)

-- ---- decimal numbers

abbrev pub in_range : ℕ → ℕ → ℕ → Bool
in_range lo hi n = leb lo n && leb n hi

abbrev pub is_digit : ℕ → Bool
is_digit b = in_range 48 57 b

-- the number that decimal digits write behind the digits of n, none where a byte is no digit
abbrev pub digits_value : ℕ → Bytes → Option ℕ
digits_value n [] = Some n
digits_value n (b ∷ bs) = cond (is_digit b) (digits_value (n * 10 + (b - 48)) bs) None

-- a decimal number without leading zeros
unfoldable pub nat_of : Bytes → Option ℕ
nat_of [] = None
nat_of (b ∷ []) = digits_value 0 (b ∷ [])
nat_of (b ∷ (c ∷ bs)) = cond (eqb b 48) None (digits_value 0 (b ∷ (c ∷ bs)))

abbrev pub negative : Option ℕ → Option ℤ
negative None = None
negative (Some zero) = None
negative (Some (suc n)) = Some (negsuc n)

-- an integer: `-` stands only before a nonzero number
unfoldable pub int_of : Bytes → Option ℤ
int_of [] = None
int_of (b ∷ bs) = cond (eqb b 45) (negative (nat_of bs)) (map_option pos (nat_of (b ∷ bs)))

-- The decimal digits of n in front of acc, at most k of them: n has no more than n + 1.
-- The test whether n is one digit is an argument to match on: an argument of `cond` would be computed for all of the fuel.
abbrev pub digits_from : ℕ → Bool → ℕ → Bytes → Bytes
digits_from zero b n acc = acc
digits_from (suc k) true n acc = (48 + n) ∷ acc
digits_from (suc k) false n acc = digits_from k (ltb (n / 10) 10) (n / 10) ((48 + n % 10) ∷ acc)

unfoldable pub decimal : ℕ → Bytes
decimal n = digits_from (suc n) (ltb n 10) n []

unfoldable pub decimalℤ : ℤ → Bytes
decimalℤ (pos n) = decimal n
decimalℤ (negsuc n) = 45 ∷ decimal (suc n)

-- ---- hexadecimal, upper case

abbrev pub hex_digit : ℕ → ℕ
hex_digit d = cond (ltb d 10) (48 + d) (55 + d)

abbrev pub hex_value : ℕ → Option ℕ
hex_value b = cond (is_digit b) (Some (b - 48)) (cond (in_range 65 70 b) (Some (b - 55)) None)

unfoldable pub hex_of : Bytes → Bytes
hex_of [] = []
hex_of (b ∷ bs) = hex_digit (b / 16) ∷ (hex_digit (b % 16) ∷ hex_of bs)

abbrev pub hex_pair : Option ℕ → Option ℕ → Option Bytes → Option Bytes
hex_pair None l r = None
hex_pair (Some h) None r = None
hex_pair (Some h) (Some l) None = None
hex_pair (Some h) (Some l) (Some bs) = Some ((h * 16 + l) ∷ bs)

-- the bytes that pairs of digits write
unfoldable pub unhex : Bytes → Option Bytes
unhex [] = Some []
unhex (h ∷ []) = None
unhex (h ∷ (l ∷ ds)) = hex_pair (hex_value h) (hex_value l) (unhex ds)

-- n's k lowest bytes, the highest first
unfoldable pub big_endian : ℕ → ℕ → Bytes
big_endian zero n = []
big_endian (suc k) n = n / 256 ^ k % 256 ∷ big_endian k n

-- the number that bytes write behind those of n, the highest first
abbrev pub from_big_endian : ℕ → Bytes → ℕ
from_big_endian n [] = n
from_big_endian n (b ∷ bs) = from_big_endian (n * 256 + b) bs

-- ---- names

-- a letter, or `_`
abbrev pub is_letter : ℕ → Bool
is_letter b = in_range 65 90 b || in_range 97 122 b || eqb b 95

-- NAME: 1 to 32 letters, digits and `_`, with no leading digit
unfoldable pub is_name : Bytes → Bool
is_name [] = false
is_name (b ∷ bs) = is_letter b && all (λ (x : ℕ). is_letter x || is_digit x) bs && leb (length (b ∷ bs)) 32

-- ---- UTF-8 (RFC 3629)

-- how many bytes of a character are still to come, and the bounds of the first of them
abbrev pub Lead : Type 0
Lead = ℕ × ℕ × ℕ

abbrev pub lead : ℕ → Option Lead
lead b =
    cond (in_range 0x00 0x7F b) (Some (0, 0, 0))
    (cond (in_range 0xC2 0xDF b) (Some (1, 0x80, 0xBF))
    (cond (in_range 0xE0 0xE0 b) (Some (2, 0xA0, 0xBF))
    (cond (in_range 0xED 0xED b) (Some (2, 0x80, 0x9F))
    (cond (in_range 0xE1 0xEF b) (Some (2, 0x80, 0xBF))
    (cond (in_range 0xF0 0xF0 b) (Some (3, 0x90, 0xBF))
    (cond (in_range 0xF1 0xF3 b) (Some (3, 0x80, 0xBF))
    (cond (in_range 0xF4 0xF4 b) (Some (3, 0x80, 0x8F)) None)))))))

-- the state behind one more byte, none where it is a fault
abbrev pub after_byte : ℕ → Lead → Option Lead
after_byte b l = cond (eqb l.0 0) (lead b) (cond (in_range l.1 l.2 b) (Some (l.0 - 1, 0x80, 0xBF)) None)

abbrev pub follows : ℕ → Option Lead → Option Lead
follows b None = None
follows b (Some l) = after_byte b l

-- whether bytes go on from a state, none after a fault, to the end of a character
abbrev pub goes_on : Option Lead → Bytes → Bool
goes_on s [] = holds_of (λ (l : Lead). eqb l.0 0) s
goes_on s (b ∷ bs) = goes_on (follows b s) bs

unfoldable pub is_utf8 : Bytes → Bool
is_utf8 bs = goes_on (Some (0, 0, 0)) bs

-- how many characters UTF-8 text has: its bytes other than 80 to BF
unfoldable pub characters : Bytes → ℕ
characters [] = 0
characters (b ∷ bs) = cond (in_range 0x80 0xBF b) 0 1 + characters bs
