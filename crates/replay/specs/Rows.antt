-- What the rows of a listing come to, with a table of the sizes of descriptors in the working space.
use Rattle.std.specs.Prelude.{ℕ, ◌+◌, ◌≤◌, ◌<◌, ◌≡◌, false, cond, [], length, drop, get_or, ltb, Option, None, Some}
use Rattle.semantics.specs.Text.{Bytes, fields_of}
use Rattle.stored.specs.Reading.{number_read, width_of, item_by, read_row, read_all, size_by, most_types, size_in}
use Rattle.stored.specs.Laying.{Laying, lay_all}

-- where the table begins; it has a byte for each ID
abbrev pub table_at : ℕ
table_at = 5120

unfoldable pub element_size_at : Bytes → ℕ → ℕ
element_size_at work i = cond (ltb i most_types) (get_or work (table_at + i) 0) 0

-- the bytes of a value by its keyword
unfoldable pub width : ℕ → ℕ
width k = width_of k

-- the item of a row by its keyword's number
unfoldable pub laid_item : (ℕ → ℕ) → ℕ → Bytes → Laying → Option Laying
laid_item sizes k row m =
    let fs = fields_of row in
    lay_all (item_by sizes k (number_read (get_or fs 2 [])) (number_read (get_or fs 3 [])) (number_read (get_or fs 4 [])) (drop 4 fs)) (Some m)

unfoldable pub laid_row : (ℕ → ℕ) → Bytes → Laying → Option Laying
laid_row sizes row m = lay_all (read_row sizes (fields_of row)) (Some m)

-- over the buffers as they are
unfoldable pub begun : ℕ → Bytes → Bytes → Option Laying
begun end image area =
    cond (ltb (length image) end) None
    (Some (record { item = 0; image = image; area = area; start = 0; end = 0; inside = false; long = end }))

unfoldable pub laid_text : (ℕ → ℕ) → Bytes → Option Laying → Option Laying
laid_text sizes t m = lay_all (read_all sizes t) m

-- u is the working space t, but for the table
pub record OutOfTable (t u : Bytes) : Type 0 where
  pub long : length u ≡ length t
  pub below : (j : ℕ) → j < table_at → get_or u j 0 ≡ get_or t j 0
  pub above : (j : ℕ) → table_at + most_types ≤ j → get_or u j 0 ≡ get_or t j 0

-- u is t with what a row says of sizes
pub record Noted (row t u : Bytes) : Type 0 where
  pub sizes : (i : ℕ) → i < most_types → get_or u (table_at + i) 0 ≡ size_by i (fields_of row) (get_or t (table_at + i) 0)
  pub rest : OutOfTable t u

-- u is t with the sizes of all descriptors
pub record Sizes (listing t u : Bytes) : Type 0 where
  pub sizes : (i : ℕ) → element_size_at u i ≡ size_in listing i
  pub rest : OutOfTable t u
