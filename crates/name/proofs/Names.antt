-- Laws of names.
use Rattle.std.proofs.Common.{◌≡◌, refl, sym, ap, ◌≤◌, ◌<◌, Bool, true, false, ◌&&◌, ◌||◌, [], ◌∷◌, length, get_or, eqb, arith}
use Rattle.std.specs.List.{list_all}
use mathlib.Core.Bool.{and-false, and-true}
use borrow.Author.Tests.{le-leb, lt-leb, eqb-true}
use Rattle.semantics.specs.Text.{Bytes, all, is_letter, is_digit, is_name}
use Rattle.semantics.proofs.Common.{never}
use Rattle.name.specs.Name.{name_letter, name_byte}

same_all : (s : Bytes) → list_all name_byte s ≡ all (λ x. is_letter x || is_digit x) s
same_all [] = refl
same_all (b ∷ bs) = ap (λ (t : Bool). name_byte b && t) (same_all bs)

pub no_bytes : (s : Bytes) → eqb (length s) 0 ≡ true → false ≡ is_name s
unfolding is_name
no_bytes [] h = refl
no_bytes (b ∷ bs) h = absurd (omega (arith, eqb-true _ _ h))

pub too_long : (s : Bytes) → 32 < length s → false ≡ is_name s
unfolding is_name
too_long [] h = absurd (omega arith)
too_long (b ∷ bs) h = sym (rw (lt-leb (length (b ∷ bs)) 32 h) (simp and-false))

pub no_letter : (s : Bytes) → name_letter (get_or s 0 0) ≡ false → false ≡ is_name s
unfolding is_name
no_letter [] h = refl
no_letter (b ∷ bs) h = sym (rw h)

pub name_all : (s : Bytes) → eqb (length s) 0 ≡ false → length s ≤ 32 → name_letter (get_or s 0 0) ≡ true → list_all name_byte s ≡ is_name s
unfolding is_name
name_all [] e h k = never (sym e)
name_all (b ∷ bs) e h k = rw (same_all bs, le-leb (length (b ∷ bs)) 32 h, k) (simp and-true)
