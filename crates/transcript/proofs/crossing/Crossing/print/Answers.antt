use Rattle.std.proofs.Common.{[], ◌∷◌, vec_items}
use Rattle.std.proofs.lemmas.Slice.{pushed}
use Rattle.std.proofs.lemmas.Result.{IfOk-weaker}
use Rattle.transcript.proofs.Rows.{line_joined}
use Rattle.transcript.specs.Crossings.{channel, fields}
use Rattle.transcript.specs.Printing.{numeral, row}
use Rattle.transcript.specs.Printing.Base.{Hex}
use Rattle.transcript.proofs.crossing.Crossing.print.Goals as goal

pub returns : goal.returns
returns c =
    let before = vec_items c.args.out.now in
    let n = c.in_ok-number.ensures in
    let space = pushed (32 ∷ []) n c.in_ok-push.was c.push.ensures.items in
    let w = c.in_ok-word.ensures in
    let name = c.name.ensures in
    let j = line_joined before (numeral Hex c.args.edge) (channel c.args.self) (row Hex (fields c.args.self)) in
    IfOk-weaker c.numbers.result _ _ (λ _ h. cc) c.numbers.ensures
