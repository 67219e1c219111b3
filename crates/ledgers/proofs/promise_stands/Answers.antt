use Rattle.ledgers.proofs.OneByOneStands.{one_by_one_stands}
use Rattle.ledgers.proofs.promise_stands.Goals as goal

pub returns : goal.returns
returns c = λ q lawful sl. one_by_one_stands lawful sl
