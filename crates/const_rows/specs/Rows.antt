-- The rows of constants, entry by entry: an entry adds the row of its key where no entry before it has the key.
use Rattle.std.specs.Prelude.{ℕ, Bool, true, false, cond, not, ◌||◌, [], eqb}
use Rattle.semantics.specs.Text.{Bytes, filter}
use Rattle.semantics.specs.Sheet.{concat_map}
use Rattle.semantics.specs.Fold.{Key, plain, qualified}
use Rattle.semantics.specs.Listing.{keys_in, is_plain, const_row}
use Rattle.implement.specs.Modules.{first_field, is_own}
use Rattle.names.specs.Table.{const_line_of, module_line_of, log_in, has_key}

-- the keys of entry i
abbrev pub plain_key : Bytes → Bytes → ℕ → Key
plain_key s t i = plain (first_field s (const_line_of t i))

abbrev pub qualified_key : Bytes → Bytes → ℕ → Key
qualified_key s t i = qualified (first_field s (module_line_of t i)) (first_field s (const_line_of t i))

-- the rows of M->NAME that the first i entries add, and the plain ones, where m entries have values
unfoldable pub qualified_to : Bytes → Bytes → ℕ → ℕ → Bytes
qualified_to s t m i = concat_map (const_row (log_in s t m)) (filter (λ (k : Key). not (is_plain k)) (keys_in (log_in s t i)))

unfoldable pub plain_to : Bytes → Bytes → ℕ → ℕ → Bytes
plain_to s t m i = concat_map (const_row (log_in s t m)) (filter is_plain (keys_in (log_in s t i)))

-- those that entry i adds
unfoldable pub qualified_part : Bytes → Bytes → ℕ → ℕ → Bytes
qualified_part s t m i = cond (eqb (module_line_of t i) 0 || has_key (qualified_key s t i) (log_in s t i)) [] (const_row (log_in s t m) (qualified_key s t i))

unfoldable pub plain_part : Bytes → Bytes → ℕ → ℕ → Bytes
plain_part s t m i = cond (not (is_own s (module_line_of t i)) || has_key (plain_key s t i) (log_in s t i)) [] (const_row (log_in s t m) (plain_key s t i))

-- the row of a key that entry i has, where no entry before it has the key
abbrev pub new_part : Bytes → Bytes → ℕ → ℕ → Key → Bytes
new_part s t m i k = cond (has_key k (log_in s t i)) [] (const_row (log_in s t m) k)

-- the plain ones, or those of M->NAME
abbrev pub rows_to : Bool → Bytes → Bytes → ℕ → ℕ → Bytes
rows_to true s t m i = plain_to s t m i
rows_to false s t m i = qualified_to s t m i

abbrev pub entry_rows : Bool → Bytes → Bytes → ℕ → ℕ → Bytes
entry_rows true s t m i = plain_part s t m i
entry_rows false s t m i = qualified_part s t m i
