-- `form::fits_form` meets its contract.
use Prim.Native.Nat.{◌-◌, ◌+◌}
use mathlib.Core.Path.{◌≡◌}
use lib.ListN.{length}
use Rattle.form.specs.Letters.{letters_fit, letters_from, fields_left, WalkBounds}
use Rattle.form.specs.Table.{codes_at, fields_behind}
use Rattle.form.proofs.fits_form.Given as goal

abbrev pub invariant-loop-w : goal.invariant-loop-w
invariant-loop-w l = (WalkBounds l.f l.w.next l.w.left l.w.letter) × (letters_fit (codes_at l.f) (fields_behind l.f l.l) ≡ letters_fit (letters_from l.f l.w) (fields_left l.l l.w))

abbrev pub decreases-loop-w : goal.decreases-loop-w
decreases-loop-w l = length l.l + 1 - l.w.at
