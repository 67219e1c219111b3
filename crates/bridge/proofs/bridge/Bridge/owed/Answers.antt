use Rattle.std.proofs.Common.{refl}
use Rattle.bridge.specs.Machines.{ask_owed_of}
use Rattle.bridge.proofs.EdgeKept.{keeps}
use Rattle.bridge.proofs.bridge.Bridge.owed.Goals as goal

pub returns-clause-promise : goal.returns-clause-promise
returns-clause-promise c = let b = c.args.self.now in keeps b (ask_owed_of b) b refl
