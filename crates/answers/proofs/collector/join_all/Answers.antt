use Rattle.std.proofs.Common.{◌≡◌, fold, ap, ◌∙◌, arith}
use Rattle.std.proofs.lemmas.Grind.{common_steps}
use Rattle.axi.specs.declared.code.Code.TheVariants.{Okay}
use Rattle.answers.proofs.FirstErrors.{collect, collects_to_first_error}
use Rattle.answers.proofs.collector.join_all.Goals as goal

pub returns : goal.returns
returns c =
    let folded : c.fold.result ≡ fold collect (record { sum = Okay }) c.args.codes.now = grind (arith, common_steps) in
    c.sum.ensures ∙ ap (λ s. s.sum) folded ∙ collects_to_first_error c.args.codes.now
