use Rattle.words.specs.Cursors.{text}
use Rattle.words.proofs.Steps.{line_all, numbers_fit}
use Rattle.std.proofs.Common.{arith, ◌∙◌}
use Rattle.words.proofs.cursor.Cursor.numbers.Goals as goal

pub returns-clause-fit : goal.returns-clause-fit
returns-clause-fit g c = numbers_fit c.args.carriers.now (text c.args.self.now) c.args.self.now.at c.loop-i.values c.loop-i.self.at
    (c.loop-i.invariant.read ∙ line_all (text c.args.self.now) c.args.carriers.now c.loop-i.values c.loop-i.i c.loop-i.self.at (omega arith) (omega arith))
