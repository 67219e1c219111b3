use Rattle.transcript.proofs.print.+digits.Given as goal

abbrev pub decreases-digits : goal.decreases-digits
decreases-digits l = l.v
