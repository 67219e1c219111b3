use Rattle.std.proofs.lemmas.Iterator.{YieldsList-from_slice}
use Rattle.std.proofs.lemmas.Iterator.Consumers.{YieldsList-end}
use Rattle.std.proofs.lemmas.Iterator.Adapters.{YieldsList-from_flatten}
use Rattle.std.specs.Option.{option_to_list}
use Rattle.transcript.proofs.There.{gives, there_is}
use Rattle.transcript.proofs.crossing.print_edge.Goals as goal

pub returns : goal.returns
returns c =
    let f = c.flatten-crossing-items.ensures in
    let i = c.into_iter-crossing-iterator.ensures.into_iter_gives in
    let slice = c.iter.ensures.rest in
    let source = f.source in
    let front = f.front in
    let back = f.back in
    let done = f.done in
    let road = YieldsList-from_flatten _ _ (λ y. y.now) option_to_list (λ x j h. gives j x.now h.0 h.1) (YieldsList-from_slice c.args.crossings.now (cc)) (cc) (cc) (cc) in
    let all = (YieldsList-end road c.loop-crossing.yielded _ c.loop-crossing.yielded_by _ _ c.in-None.is c.next.ensures.steps).0 in
    let e = there_is c.args.crossings.now in
    let h = c.loop-crossing.invariant in
    cc
