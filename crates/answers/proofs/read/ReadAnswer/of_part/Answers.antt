use Rattle.answers.proofs.ReadWords.{joins_lane_by_lane}
use Rattle.answers.proofs.read.ReadAnswer.of_part.Goals as goal

pub returns-clause-lanes : goal.returns-clause-lanes
returns-clause-lanes c = joins_lane_by_lane c.args.plan
