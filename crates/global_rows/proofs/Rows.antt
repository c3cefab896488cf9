-- Laws of the rows of globals.
use mathlib.Core.Path.{◌≡◌, refl, sym, ap, ◌∙◌}
use mathlib.Core.Bool.{Bool}
use mathlib.Core.List.{[], ◌∷◌, ◌++◌}
use Prim.Native.Nat.{ℕ, ◌+◌}
use Rattle.semantics.specs.Text.{Bytes, bytes, decimal}
use Rattle.semantics.specs.Tree.{Ty}
use Rattle.semantics.specs.Layout.{is_ptr}
use Rattle.semantics.specs.Sheet.{concat_map}
use Rattle.semantics.specs.Global.{Global, global_size}
use Rattle.semantics.specs.Listing.{row, flag, global_row}
use Rattle.rows.proofs.Rows.{concat-more}
use Rattle.write.specs.declared.Writer.{Writer}
use Rattle.write.specs.Writes.{Writes}
use Rattle.write.proofs.Writes.{writes_as, writes_then}
use Rattle.global_table.specs.Table.{type_on, global_line_of, offset_of, global_at, places_in}
use Rattle.global_table.proofs.Table.{places-more}

pub row_is : (e : Global) {x : Bytes} {off size : ℕ} {b : Bool} → x ≡ e.name → off ≡ e.offset → size ≡ global_size e.ty → b ≡ is_ptr e.ty
    → bytes "glo" ++ ((44 ∷ x) ++ ((44 ∷ decimal off) ++ ((44 ∷ decimal size) ++ ((44 ∷ flag b) ++ (10 ∷ []))))) ≡ global_row e
unfolding row global_row
row_is e p q r s = rw (p, q, r, s)

pub entry-offset : (s t : Bytes) (i : ℕ) → offset_of t i ≡ (global_at s t i).offset
unfolding global_at
entry-offset s t i = refl

-- the type of an entry's `var` line
pub entry-type : (s t : Bytes) (i : ℕ) {r : ℕ} {x : Ty} → r ≡ global_line_of t i → x ≡ type_on s r → x ≡ (global_at s t i).ty
unfolding global_at
entry-type s t i hr e = e ∙ rw hr

-- one more row
pub rows_next : (s t : Bytes) (i : ℕ) {u v w : Writer} → Writes u (concat_map global_row (places_in s t i)) v → Writes v (global_row (global_at s t i)) w → Writes u (concat_map global_row (places_in s t (i + 1))) w
rows_next s t i x y = writes_as (sym (ap (concat_map global_row) (places-more s t i) ∙ concat-more global_row (places_in s t i) (global_at s t i))) (writes_then x y)
