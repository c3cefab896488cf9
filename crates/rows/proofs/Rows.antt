-- A row is its first field, the others behind their commas, and LF.
use mathlib.Core.List.{List, [], ◌∷◌, ◌++◌, append_assoc, append-nil}
use mathlib.Core.Path.{◌≡◌, refl, sym, ap, ◌∙◌}
use Rattle.semantics.specs.Text.{Bytes}
use Rattle.semantics.specs.Sheet.{concat_map}
use Rattle.semantics.specs.Listing.{row}
use Rattle.rows.specs.Rows.{commaed}

pub row-text : (f : Bytes) (fs : List Bytes) → row (f ∷ fs) ≡ f ++ (commaed fs ++ (10 ∷ []))
unfolding row
row-text f [] = refl
row-text f (g ∷ fs) = ap (λ (t : Bytes). f ++ (44 ∷ t)) (row-text g fs ∙ sym (append_assoc g (commaed fs) (10 ∷ [])))

-- the rows of one more
pub concat-more : {A : Type 0} (f : A → Bytes) (l : List A) (x : A) → concat_map f (l ++ (x ∷ [])) ≡ concat_map f l ++ f x
concat-more f [] x = append-nil (f x)
concat-more f (y ∷ l) x = rw (concat-more f l x) (sym (append_assoc (f y) (concat_map f l) (f x)))
