-- What enters a queue, and what waits in one.
use Rattle.std.specs.Prelude.{ℕ, ◌+◌, Bool, true, false, cond, List, [], ◌∷◌, ◌++◌, Some, None, Option}
use Rattle.axi.specs.declared.wires.ReadBeat.{ReadBeat}
use Rattle.ledgers.specs.Lists.{one_if}
use Rattle.ledgers.specs.OneByOne.{room}

-- one entry more, if there is one and a slot for it
abbrev pub entered : {X : Type 0} → ℕ → Option X → List X → List X
entered n None xs = xs
entered n (Some x) xs = cond (room n xs) (xs ++ (x ∷ [])) xs

-- one entry, if the channel crosses
abbrev pub when : {X : Type 0} → Bool → X → Option X
when true x = Some x
when false x = None

-- how many of these read beats have LAST
abbrev pub lasts_of : List ReadBeat → ℕ
lasts_of [] = 0
lasts_of (r ∷ rs) = one_if r.last + lasts_of rs
