use Rattle.std.proofs.Common.{◌≡◌, ◌≤◌, take}
use Rattle.words.specs.Faults.{line_ends}
use Rattle.words.proofs.cursor.line_ends.Given as goal

abbrev pub invariant-loop-b : goal.invariant-loop-b
invariant-loop-b l = (l.n ≡ line_ends (take l.b-index l.bytes)) × (l.n ≤ l.b-index)
