-- Every clause is one of the laws of a rotated row of slots, at the slot and the number that the two callees give.
use Rattle.std.proofs.Common.{rules}
use Rattle.ring.proofs.Circular.{first_within, length_stored, none_stored, stored_at, stored_first, stored_less, stored_more}
use Rattle.ring.proofs.ring.Ring.span.Goals as goal

pub returns : goal.returns
returns g c = search (rules, first_within, length_stored, none_stored, stored_at, stored_first, stored_less, stored_more)
