-- A row of slots read from any slot on, where slot 0 follows the last.
use Rattle.std.specs.Prelude.{ℕ, ◌+◌, ◌-◌, cond, List, [], ◌∷◌, ◌++◌, take, drop, Some, None, Option, nat_lt}

-- all slots, from the slot `head` on
abbrev pub rotated : {X : Type 0} → List X → ℕ → List X
rotated slots head = drop head slots ++ take head slots

-- what `len` slots hold, from the slot `head` on; all slots, if there are fewer
abbrev pub stored : {X : Type 0} → List X → ℕ → ℕ → List X
stored slots head len = take len (rotated slots head)

-- the slot that `head` stands for: past the last slot, slot 0
abbrev pub first_slot : ℕ → ℕ → ℕ
first_slot head slots = cond (nat_lt head slots) head 0

-- the slot that is `offset` after the slot `head`
abbrev pub slot_after : ℕ → ℕ → ℕ → ℕ
slot_after head offset slots = cond (nat_lt (head + offset) slots) (head + offset) (head + offset - slots)

-- the first entry of a list, if it has one
abbrev pub first : {X : Type 0} → List X → Option X
first [] = None
first (x ∷ xs) = Some x
