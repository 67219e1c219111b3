use Rattle.bridge.specs.Machines.{edge_call}
use Rattle.bridge.proofs.EdgeKept.{said, moved, kept, keeps}
use Rattle.bridge.proofs.bridge.Bridge.edge.Goals as goal

pub returns : goal.returns
returns c =
    let b = c.args.self.now in
    let x = c.args.x.now in
    let r = c.advance.result in
    let t = c.advance.new.self in
    let e = c.advance.ensures in
    record { result = said b x t r e; moved = moved b x t r e; kept = kept b x t r e; promise = keeps b (edge_call b x) t (moved b x t r e) }
