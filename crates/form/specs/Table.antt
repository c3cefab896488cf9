-- The table of forms as bytes: 24 a row, an LF, 17 for the keywords, the kind's letter, and 5 for the fields, blank behind.
use Rattle.std.specs.Prelude.{ℕ, zero, suc, ◌+◌, ◌-◌, cond, List, [], ◌∷◌, ◌++◌, length, get_or, ltb, Option, None, Some}
use Rattle.semantics.specs.Text.{Bytes}
use Rattle.semantics.specs.Tree.{Node}
use Rattle.semantics.specs.Form.{Atom, Part, Row, letter, forms, no_row, row_of, fields_from, formed, make}
use Rattle.semantics.specs.Form.Atom.{name, key, ref, maybe, unary_op, binary_op, line_or_col, size, i64, offset, real, text}
use Rattle.semantics.specs.Form.Part.{one, many}

-- a letter for what a field holds: that of the kind for a reference, 32 lower where it may be 0
abbrev pub code : Atom → ℕ
code name = 87
code key = 81
code (ref k) = letter k
code (maybe k) = letter k - 32
code unary_op = 85
code binary_op = 86
code line_or_col = 80
code size = 83
code i64 = 88
code offset = 89
code real = 82
code text = 84

-- 32 higher, a small letter, for a count and as many fields
abbrev pub codes : List Part → Bytes
codes [] = []
codes (one a ∷ ps) = code a ∷ codes ps
codes (many a ∷ ps) = (code a + 32) ∷ codes ps

-- n places, blank behind the list
abbrev pub pad_to : ℕ → Bytes → Bytes
pad_to zero xs = []
pad_to (suc n) [] = 32 ∷ pad_to n []
pad_to (suc n) (x ∷ xs) = x ∷ pad_to n xs

abbrev pub encode : Row → Bytes
encode r = 10 ∷ (pad_to 17 r.words ++ (letter r.kind ∷ pad_to 5 (codes r.parts)))

abbrev pub table : List Row → Bytes
table [] = []
table (r ∷ rs) = encode r ++ table rs

-- ---- row f, from 0

abbrev pub row_count : ℕ
row_count = 42

abbrev pub row_at : ℕ → Row
row_at f = get_or forms f no_row

abbrev pub keywords_at : ℕ → Bytes
keywords_at f = (row_at f).words

abbrev pub kind_at : ℕ → ℕ
kind_at f = letter (row_at f).kind

abbrev pub codes_at : ℕ → Bytes
codes_at f = codes (row_at f).parts

-- the fields of a line behind the keywords of form f
abbrev pub fields_behind : ℕ → Bytes → List Bytes
fields_behind f l = fields_from (length (keywords_at f) + 1) l

-- row f, none behind the last
abbrev pub row_if : ℕ → Option ℕ
row_if f = cond (ltb f row_count) (Some f) None

-- the number of line k's form
abbrev pub form_of : ℕ → Bytes → Option ℕ
form_of k l = cond (formed k l) (Some (row_of forms l)) None

-- what form f makes of fields, where ns are nodes
abbrev pub row_node : List Node → ℕ → List Bytes → Node
row_node ns f fs = make (row_at f).parts (row_at f).make ns fs
