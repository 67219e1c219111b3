-- An entry waits in a queue that is not empty.
use Rattle.std.proofs.Common.{◌≡◌, not, List, [], ◌∷◌, length, nat_le, refl, arith}
use Rattle.std.proofs.lemmas.Bool.Decides.{nat_tests}
use Rattle.ledgers.specs.Lists.{any}

pub waits : {X : Type 0} (xs : List X) → not (nat_le (length xs) 0) ≡ any xs
waits [] = refl
waits (x ∷ xs) = grind (arith, nat_tests)
