-- Maps of blocks that begin with pointers, and of what lines write out.
use mathlib.Core.Path.{◌≡◌, refl}
use mathlib.Core.Bool.{true}
use mathlib.Core.List.{List, [], ◌∷◌}
use Prim.Native.Nat.{ℕ, ◌+◌, ◌*◌, ◌≤◌, ◌<◌}
use native.Mathlib.Omega.{arith}
use native.Mathlib.Numerals.{add-one}
use lib.IntN.{ℤ, pos, negsuc}
use lib.ListN.{length, take, get_or}
use lib.Seq.{take-suc, take_all}
use Rattle.semantics.specs.Tree.{Shape}
use Rattle.semantics.specs.Form.{between}
use Rattle.semantics.specs.Types.{opaque_shape}
use Rattle.maps.specs.Maps.{Marks}
use Rattle.maps.proofs.Maps.{marks-none, marks_then, marks-skip}
use Rattle.type_lines.specs.Shapes.{raised}
use Rattle.write.specs.declared.Writer.{Writer}
use Rattle.type_row.specs.Row.{word_offsets, TypesWrote}

pub opaque-words : word_offsets 12 ≡ opaque_shape.pointers
unfolding word_offsets opaque_shape
opaque-words = refl

pub opaque-size : 48 ≡ opaque_shape.size
unfolding opaque_shape
opaque-size = refl

-- one more word
pub words-next : {size : ℕ} {t u v : List ℕ} (k : ℕ) → Marks size (word_offsets k) t u → Marks size (pos (4 * k) ∷ []) u v → Marks size (word_offsets (k + 1)) t v
unfolding word_offsets
words-next k a b = rw (add-one k) (marks_then a b)

pub words-none : {size : ℕ} {t : List ℕ} → Marks size (word_offsets 0) t t
unfolding word_offsets
words-none = marks-none

-- one more offset
pub offsets-next : {size : ℕ} {t u v : List ℕ} (l : List ℤ) (j : ℕ) → j < length l → Marks size (take j l) t u → Marks size (get_or l j (pos 0) ∷ []) u v → Marks size (take (j + 1) l) t v
offsets-next l j h a b = rw (add-one j, take-suc l j (pos 0) h) (marks_then a b)

pub offsets-all : {size : ℕ} {t u : List ℕ} (l : List ℤ) (j : ℕ) → length l ≤ j → Marks size (take j l) t u → Marks size l t u
offsets-all l j h a = rw (take_all j l h) at a

-- an offset below 0
pub below-zero : {size : ℕ} {t : List ℕ} (z : ℕ) (y : ℤ) → between 4096 4096 y ≡ true → z ≡ raised y → z < 4096 → Marks size (y ∷ []) t t
below-zero z (pos a) h e l = absurd (omega arith)
below-zero z (negsuc a) h e l = marks-skip (negsuc a) (λ x. refl)

-- ---- a row of a shape that is said otherwise

pub shape_is : (x : Shape) (a : ℕ) (l : List ℤ) → a ≡ x.size → l ≡ x.pointers → record { size = a; pointers = l } ≡ x
shape_is x a l e f = rw (e, f)

pub types-as : {x y : Shape} {a b : ℕ} {v w : Writer} {t u : List ℕ} → x ≡ y → TypesWrote (x ∷ []) a b v w t u → TypesWrote (y ∷ []) a b v w t u
types-as q x = rw (← q) x
