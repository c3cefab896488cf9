-- What the enums of kinds stand for.
use Rattle.std.specs.Prelude.{ℕ, [], ◌∷◌, get_or, Option, None, Some}
use Rattle.semantics.specs.Tree.{ElemKind}
use Rattle.codes.specs.declared.element.Element.{Element}
use Rattle.codes.specs.declared.element.Element.TheVariants as E
use Rattle.codes.specs.declared.item.Item.{Item}
use Rattle.codes.specs.declared.item.Item.TheVariants as I
use Rattle.codes.specs.declared.value.Value.{Value}
use Rattle.codes.specs.declared.value.Value.TheVariants as V

-- the number of a keyword behind `dat`, 0 where it is none
abbrev pub item_number : Item → ℕ
item_number I.Bytes = 1
item_number I.Words = 2
item_number I.Bigs = 3
item_number I.Reals = 4
item_number I.Str = 5
item_number I.Array = 6
item_number I.Set = 7
item_number I.Back = 8

abbrev pub keyword_number : Option Item → ℕ
keyword_number None = 0
keyword_number (Some k) = item_number k

-- the number of a kind of value where it is stored, 0 for a constant that failed
abbrev pub value_number : Value → ℕ
value_number V.Int = 1
value_number V.Real = 2
value_number V.Str = 3

-- and the kind of a number
abbrev pub value_by : ℕ → Option Value
value_by n = get_or (None ∷ Some V.Int ∷ Some V.Real ∷ Some V.Str ∷ []) n None

-- a kind of elements
abbrev pub element_kind : Element → ElemKind
element_kind E.Byte = ElemKind.k_byte
element_kind E.Word = ElemKind.k_word
element_kind E.Big = ElemKind.k_big
element_kind E.Real = ElemKind.k_real
element_kind E.Pointer = ElemKind.k_ptr
