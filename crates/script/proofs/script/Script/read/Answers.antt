use Rattle.script.proofs.Lawful.{back_law, points_law}
use Rattle.script.proofs.script.Script.read.Goals as goal

pub returns-clause-back : goal.returns-clause-back
returns-clause-back c = back_law c.args.bytes.now c.parse.result c.parse.ensures.read

pub returns-clause-points : goal.returns-clause-points
returns-clause-points c = points_law c.args.bytes.now c.parse.result c.parse.ensures.read
