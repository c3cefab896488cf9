-- The pass that makes a pointer map.
use Rattle.std.specs.Prelude.{ℕ, ◌≡◌, List, [], ◌∷◌, take, ℤ}
use Rattle.semantics.specs.Text.{Bytes}
use Rattle.semantics.specs.Layout.{pointer_map, pointer_count}

-- bytes laid over a buffer: as far as it goes, and behind them what stood there
unfoldable pub laid_over : Bytes → Bytes → Bytes
laid_over [] d = d
laid_over (b ∷ bs) [] = []
laid_over (b ∷ bs) (x ∷ d) = b ∷ laid_over bs d

-- what the pass holds after n finished bytes: the map's first n bytes, laid over the buffer as it came, and the count of ones in them
pub record MapPass (size : ℕ) (offs : List ℤ) (came : Bytes) (n : ℕ) (buffer : Bytes) (count : ℕ) : Type 0 where
  pub bytes : buffer ≡ laid_over (take n (pointer_map size offs)) came
  pub ones : count ≡ pointer_count (take n (pointer_map size offs))
