-- Text that no separator cuts.
use Rattle.std.specs.Prelude.{ℕ, Bool, ltb}
use Rattle.semantics.specs.Text.{Bytes, all}

-- every byte lies above the comma, which lies above LF
unfoldable pub is_plain_text : Bytes → Bool
is_plain_text t = all (λ (b : ℕ). ltb 44 b) t
