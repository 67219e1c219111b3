use Rattle.std.proofs.Common.{eqb, ap, ◌∙◌, arith, take_all}
use Rattle.std.proofs.lemmas.List.Sums.{count_by_more_yes, count_by_more_no}
use Rattle.std.proofs.lemmas.Bool.{eq-eqb, ne_eqb}
use Rattle.words.specs.Faults.{line_ends}
use Rattle.words.proofs.cursor.line_ends.Goals as goal
use Rattle.words.proofs.cursor.line_ends.Goals.{then-b-eq10, else-b-eq10}

pub loop-b-preserved : goal.loop-b-preserved
loop-b-preserved c =
    elim c.if-b-eq10.branch [
      | then-b-eq10 w ↦ omega (arith, w.n-is, count_by_more_yes (λ b. eqb b 10) c.args.bytes.now c.loop-b.b-index 0 c.loop-b-test.true (eq-eqb _ _ w.if-b-eq10.true))
      | else-b-eq10 w ↦ omega (arith, w.n-is, count_by_more_no (λ b. eqb b 10) c.args.bytes.now c.loop-b.b-index 0 c.loop-b-test.true (ne_eqb _ _ w.if-b-eq10.false))
    ]

pub returns : goal.returns
returns c = record { count = c.loop-b.invariant.0 ∙ ap line_ends (take_all _ _ c.loop-b-test.false); small = omega arith }
