use Rattle.std.proofs.Common.{◌≡◌, arith, rules}
use Rattle.parts.specs.Addresses.{here}
use Rattle.parts.proofs.Bounds.{carried_whole}
use Rattle.parts.proofs.walk.Walk.next_address.Goals as goal

pub returns-clause-whole : goal.returns-clause-whole
returns-clause-whole c =
    let at : c.address.result ≡ here c.args.self = search rules in
    carried_whole c.args.self _ (omega arith) at
