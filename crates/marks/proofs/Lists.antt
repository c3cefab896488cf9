-- The pointers of a list of fields, marked one behind the other.
use mathlib.Core.Path.{◌≡◌}
use mathlib.Core.Bool.{cond}
use mathlib.Core.List.{List, [], ◌∷◌}
use Prim.Native.Nat.{ℕ, ◌+◌, ◌≤◌, ◌<◌}
use native.Mathlib.Omega.{arith}
use native.Mathlib.Numerals.{add-one}
use lib.IntN.{pos}
use lib.ListN.{length, get_or, drop, drop_of_length-le}
use lib.Seq.{drop-cons}
use Rattle.semantics.specs.Text.{Bytes}
use Rattle.field_list.specs.declared.Field.{Field}
use Rattle.field_list.specs.Fields.{no_field, pointers_in}
use Rattle.maps.specs.Maps.{MapRoom, Marks}
use Rattle.maps.proofs.Maps.{marks-none, marks_then, room-kept}

-- field f is marked from t to u
abbrev pub FieldMarked : ℕ → Field → Bytes → Bytes → Type 0
FieldMarked size f t u = Marks size (cond f.pointer (pos f.offset ∷ []) []) t u

-- at u, i fields of a list are marked: whoever marks what is left has marked the list
pub record ListMarked (size : ℕ) (ys : List Field) (t u : Bytes) (i : ℕ) : Type 0 where
  pub within : i ≤ length ys
  pub long : length u ≡ length t
  pub room : MapRoom u size
  pub rest : (v : Bytes) → Marks size (pointers_in (drop i ys)) u v → Marks size (pointers_in ys) t v

module _ (size : ℕ) (ys : List Field) (t : Bytes) where
  pub list-next : {u w : Bytes} {i : ℕ} → ListMarked size ys t u i → i < length ys → FieldMarked size (get_or ys i no_field) u w → ListMarked size ys t w (i + 1)
  list-next {u} {w} {i} m h p = record {
    within = omega (arith, h);
    long = omega (arith, p.kept.long, m.long);
    room = room-kept p.kept m.room;
    rest = λ v x. m.rest v (rw (drop-cons ys i no_field h) (marks_then p (rw (add-one i) at x)));
  }

  pub list-end : {u : Bytes} {i : ℕ} → ListMarked size ys t u i → length ys ≤ i → Marks size (pointers_in ys) t u
  list-end {u} {i} m h = m.rest u (rw (drop_of_length-le ys h) marks-none)
