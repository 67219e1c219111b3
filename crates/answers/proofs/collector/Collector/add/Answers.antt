use Rattle.std.proofs.Common.{ap, ◌∙◌}
use Rattle.answers.proofs.Totals.{total_push}
use Rattle.answers.proofs.collector.Collector.add.Goals as goal

pub returns-clause-total : goal.returns-clause-total
returns-clause-total g c =
    let r = g.R.Answer in
    let laws = g.met.R.Answer in
    λ so_far e. c.join.ensures ∙ ap (λ s. r.joined s c.args.a) e ∙ total_push r.none r.joined laws.left laws.right laws.assoc so_far c.args.a
