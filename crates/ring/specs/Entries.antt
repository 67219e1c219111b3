-- What a ring holds.
use Rattle.std.specs.Prelude.{ℕ, List, length}
use Rattle.ring.specs.Circular.{stored}
use Rattle.ring.specs.declared.ring.Ring.{Ring}

-- the entries of a ring, oldest first
abbrev pub entries : {X : Type 0} → Ring X → List X
entries r = stored r.slots.now r.head r.len

-- how many slots a ring has
abbrev pub slot_count : {X : Type 0} → Ring X → ℕ
slot_count r = length r.slots.now
