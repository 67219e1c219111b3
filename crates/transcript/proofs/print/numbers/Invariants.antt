use Rattle.std.proofs.Common.{◌≡◌, ◌++◌, drop, vec_items}
use Rattle.transcript.specs.Printing.{row}
use Rattle.transcript.specs.Printing.Base.{Hex}
use Rattle.transcript.proofs.print.numbers.Given as goal

abbrev pub invariant-loop-i : goal.invariant-loop-i
invariant-loop-i l = vec_items l.out ++ row Hex (drop l.i l.vs) ≡ vec_items l.initial.out ++ row Hex l.vs
