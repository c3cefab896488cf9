-- The cases that lines make.
use Rattle.std.specs.Prelude.{ℕ}
use Rattle.semantics.specs.Text.{Bytes}
use Rattle.semantics.specs.Tree.{Case}
use Rattle.semantics.specs.Form.{node_at}
use Rattle.lines.specs.Lines.{nodes_in}

-- the case that line v makes, from 1
unfoldable pub case_at : Bytes → ℕ → Case
case_at s v = (node_at (nodes_in s) v).case
