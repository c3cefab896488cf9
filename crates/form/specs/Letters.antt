-- Fields by the letters of the table, and where a walk over them stands.
use Rattle.std.specs.Prelude.{ℕ, ◌+◌, ◌-◌, ◌≤◌, ◌<◌, ◌≡◌, Bool, true, cond, ◌&&◌, List, [], ◌∷◌, ◌++◌, length, drop, get_or, replicate, leb, ltb, eqb}
use Rattle.semantics.specs.Text.{Bytes, holds_of, parts_at, unhex, is_name}
use Rattle.semantics.specs.Form as Form
use Rattle.decimal.specs.Number as Number
use Rattle.utf8.specs.Utf8 as Utf8
use Rattle.form.specs.declared.Walk.{Walk}
use Rattle.form.specs.Table.{row_count, keywords_at, codes_at}

unfoldable pub is_key_field : Bytes → Bool
is_key_field f = Form.is_key (parts_at 46 f)

unfoldable pub is_real_field : Bytes → Bool
is_real_field f = holds_of Form.is_real_bytes (unhex f)

-- what a number must be below where its letter is x; 65,537 where it may be any number
unfoldable pub limit_of : ℕ → ℕ
limit_of x =
    cond (leb 97 x) 17
    (cond (eqb x 85) 4
    (cond (eqb x 86) 19
    (cond (eqb x 80) 65536
    (cond (eqb x 83) 4097
    (cond (eqb x 32) 0 65537)))))

-- whether a field holds what the letter x says
unfoldable pub letter_holds : ℕ → Bytes → Bool
letter_holds x f =
    cond (eqb x 87) (is_name f)
    (cond (eqb x 81) (is_key_field f)
    (cond (eqb x 88) (Number.is_between 9223372036854775808 9223372036854775807 f)
    (cond (eqb x 89) (Number.is_between 4096 4096 f)
    (cond (eqb x 82) (is_real_field f)
    (cond (eqb x 84) (Utf8.is_text f)
    (ltb (Number.number_up_to 65536 f) (limit_of x)))))))

-- the letters after a field, where n is its number
unfoldable pub after : ℕ → Bytes → Bytes
after n [] = []
after n (x ∷ xs) = cond (leb 97 x) (replicate n (x - 32) ++ xs) xs

-- whether fields are those of letters; 32 stands behind the last of them
unfoldable pub letters_fit : Bytes → List Bytes → Bool
letters_fit xs [] = eqb (get_or xs 0 32) 32
letters_fit xs (f ∷ fs) = letter_holds (get_or xs 0 32) f && letters_fit (after (Form.number_of f) xs) fs

-- the letters still to come: this letter as often as fields are left, and then the form's letters from `next` on
unfoldable pub letters_left : ℕ → ℕ → ℕ → ℕ → Bytes
letters_left f next left letter = replicate left letter ++ drop next (codes_at f)

-- a walk may stand there: its letter is none of a count
pub record WalkBounds (f next left letter : ℕ) : Type 0 where
  pub form : f < row_count
  pub within : next ≤ length (codes_at f)
  pub single : letter < 97

-- ---- a walk over the fields of a line

abbrev pub letters_from : ℕ → Walk → Bytes
letters_from f w = letters_left f w.next w.left w.letter

abbrev pub fields_left : Bytes → Walk → List Bytes
fields_left l w = Form.fields_from w.at l

-- the fields from where it stands are those of the letters still to come
pub record WalkAt (f : ℕ) (l : Bytes) (w : Walk) : Type 0 where
  pub ready : WalkBounds f w.next w.left w.letter
  pub fit : letters_fit (letters_from f w) (fields_left l w) ≡ true

-- it went past a field with the letter x, whose number is v
pub record WalkStepped (f : ℕ) (l : Bytes) (w : Walk) (x v : ℕ) (u : Walk) : Type 0 where
  pub field : Bytes
  pub letter : x ≡ get_or (letters_from f w) 0 32
  pub fields : fields_left l w ≡ field ∷ fields_left l u
  pub good : letter_holds x field ≡ true
  pub number : v ≡ Number.number_up_to 65536 field
  pub letters : letters_from f u ≡ after (Form.number_of field) (letters_from f w)
  pub standing : WalkAt f l u
  pub further : w.at < u.at

-- a walk over the fields behind the keywords of form f
abbrev pub beginning : ℕ → Walk
beginning f = record { at = length (keywords_at f) + 1; next = 0; left = 0; letter = 32 }
