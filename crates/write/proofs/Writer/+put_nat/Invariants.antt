use Rattle.write.proofs.Writer.+put_nat.Given as goal

abbrev pub decreases-put_nat : goal.decreases-put_nat
decreases-put_nat l = l.n
