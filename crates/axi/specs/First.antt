-- The first rule of a list that applies.
use Rattle.std.specs.Prelude.{Bool, cond, List, [], ◌∷◌}

-- what `made` makes of the first entry that passes the test, or `other` where none does
abbrev pub first_that : {X Y : Type 0} → (X → Bool) → (X → Y) → Y → List X → Y
first_that test made other [] = other
first_that test made other (x ∷ xs) = cond (test x) (made x) (first_that test made other xs)
