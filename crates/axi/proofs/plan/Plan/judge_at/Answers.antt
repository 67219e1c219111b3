use Rattle.std.proofs.Common.{◌∙◌}
use Rattle.axi.specs.Verdicts.{applies, at_level, shape_rules, level_rules}
use Rattle.axi.specs.declared.verdict.Verdict.TheVariants.{Forwarded}
use Rattle.axi.proofs.Firsts.{first_found, none_found}
use Rattle.axi.proofs.Reasons.{first_reason}
use Rattle.axi.proofs.plan.Plan.judge_at.Goals as goal

pub returns-in-Some : goal.returns-in-Some
returns-in-Some c =
    let e = first_found (applies (at_level c.args.level c.args.self) c.args.b) Forwarded shape_rules level_rules _ c.in-Some.ensures in
    record { which = e; first = first_reason (at_level c.args.level c.args.self) c.args.b _ e }

pub returns-in-None : goal.returns-in-None
returns-in-None c =
    let e = c.level_verdict.ensures ∙ none_found (applies (at_level c.args.level c.args.self) c.args.b) Forwarded shape_rules level_rules c.in-None.ensures in
    record { which = e; first = first_reason (at_level c.args.level c.args.self) c.args.b _ e }
