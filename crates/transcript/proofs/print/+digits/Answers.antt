use Rattle.std.proofs.Common.{◌/◌, ◌<◌, [], ◌∷◌, vec_items, append_assoc, arith}
use Rattle.std.proofs.lemmas.Slice.{pushed}
use Rattle.transcript.proofs.Digits.{digits_step}
use Rattle.transcript.specs.Printing.{digits_of}
use Rattle.transcript.specs.Printing.Base.{Hex}
use Rattle.transcript.proofs.print.+digits.Goals as goal

pub returns : goal.returns
returns t c =
    let v = c.args.v in
    let pos : 0 < v = omega arith in
    let d = c.digit.result in
    let front = c.in_ok-digits.ensures in
    let all = pushed (d ∷ []) front c.in_ok-push.was c.push.ensures.items in
    let s = digits_step Hex v pos in
    let a = append_assoc (vec_items c.args.out.now) (digits_of Hex (v / 16)) (d ∷ []) in
    let e = c.digit.ensures in
    cc
