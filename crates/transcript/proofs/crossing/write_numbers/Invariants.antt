use Rattle.std.proofs.Common.{take}
use Rattle.std.specs.Fmt.{HasWritten, IsPlainFormatter}
use Rattle.transcript.specs.Printing.{spaced}
use Rattle.transcript.specs.Printing.Base.{Hex}
use Rattle.transcript.proofs.crossing.write_numbers.Given as goal

abbrev pub invariant-loop-number : goal.invariant-loop-number
invariant-loop-number g l =
    IsPlainFormatter l.initial.f → HasWritten g.W.Write.write_str_gives l.initial.f (spaced Hex (take l.number-index l.numbers)) l.f
