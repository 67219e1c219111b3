use Rattle.std.proofs.Common.{◌≡◌, ◌≤◌, drop}
use Rattle.explain.specs.Hex.{hex_after, hex_value}
use Rattle.explain.proofs.hex.number.Given as goal

-- the bytes to come, behind the number so far, give the number of the whole word
abbrev pub invariant-loop-byte : goal.invariant-loop-byte
invariant-loop-byte l = (l.value ≤ l.largest) × (hex_after l.value (drop l.byte-index l.word) ≡ hex_value l.word)
