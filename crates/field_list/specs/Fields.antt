-- Lists of fields.
use Rattle.std.specs.Prelude.{ℕ, zero, suc, ◌+◌, ◌-◌, max, Bool, false, cond, List, [], ◌∷◌, ◌++◌, ℤ, pos, replicate}
use Rattle.field_list.specs.declared.Field.{Field}

-- so many fields of one size, one behind the other
unfoldable pub line_fields_from : ℕ → ℕ → Bool → ℕ → List Field
line_fields_from off size pointer zero = []
line_fields_from off size pointer (suc n) = record { offset = off; size = size; pointer = pointer } ∷ line_fields_from (off + size) size pointer n

-- what stands behind the last one
abbrev pub no_field : Field
no_field = record { offset = 0; size = 0; pointer = false }

unfoldable pub line_fields : ℕ → ℕ → Bool → ℕ → List Field
line_fields off size pointer n = line_fields_from off size pointer n ++ replicate (16 - n) no_field

-- the furthest end, and at least `end`
abbrev pub furthest_in : ℕ → List Field → ℕ
furthest_in end [] = end
furthest_in end (f ∷ fs) = furthest_in (max end (f.offset + f.size)) fs

-- the offsets of the pointers
abbrev pub pointers_in : List Field → List ℤ
pointers_in [] = []
pointers_in (f ∷ fs) = cond f.pointer (pos f.offset ∷ []) [] ++ pointers_in fs
