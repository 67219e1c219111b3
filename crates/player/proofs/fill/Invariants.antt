use Rattle.std.proofs.Common.{◌≡◌, ◌-◌, ◌≤◌, length}
use Rattle.player.proofs.fill.Given as goal

abbrev pub invariant-loop-len : goal.invariant-loop-len
invariant-loop-len g l = (l.len ≤ 16385) × (length l.buffer ≡ 16385)

abbrev pub decreases-loop-len : goal.decreases-loop-len
decreases-loop-len g l = 16385 - l.len
