use Rattle.std.proofs.Common.{◌<◌, ◌^◌, arith, append-nil}
use Rattle.std.proofs.Output.{has_written_of_eq}
use Rattle.transcript.proofs.Digits.{decimal_text}
use Rattle.transcript.specs.Printing.{numeral}
use Rattle.transcript.specs.Printing.Base.{Decimal}
use Rattle.transcript.proofs.fault.PlayerFaultDisplay.fmt.Goals as goal

pub returns-clause-writes : goal.returns-clause-writes
returns-clause-writes g c =
    let f = c.args.self.now in
    let line : f.line < 2 ^ 64 = omega arith in
    let place : f.place < 2 ^ 64 = omega arith in
    let few : c.number-number.result < 2 ^ 64 = omega (arith, c.number-number.type_inv) in
    let n = decimal_text c.number-number.result few in
    let l = decimal_text f.line line in
    let p = decimal_text f.place place in
    let e = append-nil (numeral Decimal f.place) in
    let a = c.layer-layer.ensures in
    let b = c.number-number.ensures in
    λ plain ok. has_written_of_eq _ _ _ _ _ (cc) (c.write.ensures.writes plain ok)
