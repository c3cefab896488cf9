-- `need` lines and their keys.
use Rattle.std.specs.Prelude.{ℕ, ◌<◌, ◌≡◌, cond, List, [], ◌∷◌, eqb, Option, None, Some}
use Rattle.codes.specs.declared.element.Element.{Element}
use Rattle.codes.specs.declared.element.Element.TheVariants as E
use Rattle.semantics.specs.Text.{Bytes}
use Rattle.semantics.specs.Tree.{TypeKey, Declares}
use Rattle.semantics.specs.Tree.TypeKey.{opaque_key}
use Rattle.semantics.specs.Form.{letter}
use Rattle.lines.specs.Lines.{lines_in, read_at, nodes_in}
use Rattle.checks.specs.Checks.{Checked}
use Rattle.source.specs.Walk.{declares_at, declared_to}

abbrev pub first_key : List TypeKey → TypeKey
first_key [] = opaque_key
first_key (k ∷ ks) = k

-- the key of the `need` line i, from 0
unfoldable pub need_at : Bytes → ℕ → TypeKey
need_at s i = first_key (declares_at (nodes_in s) i).needs

-- line i of a checked sheet is a `need` line, 78
pub record NeedLine (s : Bytes) (i : ℕ) : Type 0 where
  pub checked : Checked s
  pub within : i < lines_in s
  pub kind : letter (read_at s i).form.kind ≡ 78

-- what the first i lines need
abbrev pub needs_to : Bytes → ℕ → List TypeKey
needs_to s i = declared_to (λ (d : Declares). d.needs) (nodes_in s) i

-- the kind of element that form f needs
abbrev pub kind_by : ℕ → Option Element
kind_by f =
    cond (eqb f 35) (Some E.Word) (cond (eqb f 36) (Some E.Byte) (cond (eqb f 37) (Some E.Big) (cond (eqb f 38) (Some E.Real) (cond (eqb f 39) (Some E.Pointer) None))))
