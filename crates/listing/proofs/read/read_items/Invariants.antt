use Rattle.std.proofs.Common.{◌≡◌, ◌-◌, length}
use Rattle.words.specs.Cursors.{text}
use Rattle.listing.specs.Lists.{Said}
use Rattle.listing.proofs.read.read_items.Given as goal

abbrev pub invariant-loop-cursor : goal.invariant-loop-cursor
invariant-loop-cursor l = record {
  same : text l.cursor ≡ l.fn.list;
  said : Said l.fn.list l.items.items l.plan l.cursor.at;
}

-- the bytes to come
abbrev pub decreases-loop-cursor : goal.decreases-loop-cursor
decreases-loop-cursor l = length (text l.cursor) - l.cursor.at
