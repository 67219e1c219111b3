use Rattle.std.proofs.Common.{refl}
use Rattle.bridge.specs.Machines.{ask_wires_of}
use Rattle.bridge.proofs.EdgeKept.{keeps}
use Rattle.bridge.proofs.bridge.Bridge.wires.Goals as goal

pub returns-clause-promise : goal.returns-clause-promise
returns-clause-promise c = let b = c.args.self.now in keeps b (ask_wires_of b) b refl
