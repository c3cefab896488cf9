-- Refusal 6 by kinds: 77 is `mod` and 79 `end`.
use Rattle.std.specs.Prelude.{ℕ, Bool, true, false, cond, not, ◌&&◌, ◌||◌, eqb}

-- whether a line of a kind may not stand there
unfoldable pub wrong : ℕ → Bool → Bool
wrong k is_open = eqb k 77 && is_open || eqb k 79 && not is_open

-- whether a module is open behind it
unfoldable pub opens : ℕ → Bool → Bool
opens k is_open = cond (eqb k 77) true (cond (eqb k 79) false is_open)
