-- Rows of numbers.
use Prim.Native.Nat.{ℕ}
use mathlib.Core.Path.{◌≡◌, sym, ◌∙◌}
use mathlib.Core.List.{List, [], ◌∷◌, ◌++◌, append_assoc, append-nil}
use lib.ListN.{length}
use Rattle.semantics.specs.Text.{Bytes, bytes, decimal}
use Rattle.semantics.specs.Tree.{ConstVal, ElemKind}
use Rattle.write.specs.declared.Writer.{Writer}
use Rattle.write.specs.Writes.{Writes}
use Rattle.write.proofs.Writes.{writes_then, writes_as}
use Rattle.rows.specs.Rows.{commaed}
use Rattle.rows.proofs.Rows.{row-text}
use Rattle.elements.specs.Elements.{element_texts, kind_name, head_text, values_row}

regroup : (p k o n t l : Bytes) → (p ++ (k ++ (o ++ n))) ++ (t ++ l) ≡ p ++ ((k ++ (o ++ (n ++ t))) ++ l)
regroup p k o n t l = simp append_assoc

-- a head, numbers and LF are a row
pub numbers-row : (k : ElemKind) (off : ℕ) (vs : List ConstVal) {u v w x : Writer}
    → Writes u (head_text k off (length vs)) v → Writes v (commaed (element_texts k vs)) w → Writes w (10 ∷ []) x → Writes u (values_row k off vs) x
unfolding head_text values_row
numbers-row k off vs a b c =
    let ts = element_texts k vs in
    writes_as
    (regroup (bytes "dat") (44 ∷ kind_name k) (44 ∷ decimal off) (44 ∷ decimal (length vs)) (commaed ts) (10 ∷ [])
    ∙ sym (row-text (bytes "dat") (kind_name k ∷ decimal off ∷ decimal (length vs) ∷ ts)))
    (writes_then a (writes_then b c))

pub one_field : {x : Bytes} {u v : Writer} → Writes u (44 ∷ x) v → Writes u (commaed (x ∷ [])) v
one_field {x} w = writes_as (sym (append-nil (44 ∷ x))) w
