use Rattle.playback.proofs.Stepping.{stepped}
use Rattle.playback.specs.Entries.{stock}
use Rattle.playback.proofs.player.Bench.step.Goals as goal

pub returns-clause-edge : goal.returns-clause-edge
returns-clause-edge c =
    let b = c.args.self.now in
    let answer = c.in_ok-report.ensures.result in
    stepped b.bridge c.edge.new.self (stock b.entries) (stock c.pass.new.self) c.wires-x.result c.wires-o.result c.in_ok-report.report c.crossings.result c.args.gate
    c.wires-x.ensures c.wires-o.ensures.shown answer.0 answer.1 c.edge.ensures.moved c.pass.ensures c.crossings.ensures
