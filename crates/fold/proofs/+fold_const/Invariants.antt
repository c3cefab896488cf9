-- Each line under r stands before r.
use Rattle.fold.proofs.+fold_const.Given as goal

abbrev pub decreases-fold_const : goal.decreases-fold_const
decreases-fold_const l = l.r
