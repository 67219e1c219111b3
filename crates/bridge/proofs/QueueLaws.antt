-- What crosses above enters behind what stays, and leaves in front of it.
use Rattle.std.proofs.Common.{◌≡◌, ℕ, Bool, true, false, cond, ◌&&◌, List, [], ◌∷◌, ◌++◌, is_some, sym, refl, ap, append-nil, arith}
use Rattle.std.proofs.lemmas.Bool.Decides.{nat_tests}
use Rattle.ledgers.specs.Lists.{just_if, less_if, any}
use Rattle.ledgers.specs.OneByOne.{room}
use Rattle.engines.specs.Queues.{entered, when}

-- a queue that was not full has room after an entry left
still_room : {X : Type 0} (n : ℕ) (c : Bool) (xs : List X) → room n xs ≡ true → room n (less_if c xs) ≡ true
still_room n true [] h = h
still_room n true (x ∷ xs) h = grind (arith, nat_tests)
still_room n false xs h = h

-- an entry that crosses stands behind what stays
enters_at : {X : Type 0} (n : ℕ) (v t c : Bool) (x : X) (xs : List X) → room n xs ≡ t → entered n (when (v && t) x) (less_if c xs) ≡ less_if c xs ++ just_if (v && t) x
enters_at n true true c x xs h = ap (λ r. cond r (less_if c xs ++ (x ∷ [])) (less_if c xs)) (still_room n c xs h)
enters_at n true false c x xs h = sym (append-nil (less_if c xs))
enters_at n false t c x xs h = sym (append-nil (less_if c xs))

pub enters : {X : Type 0} (n : ℕ) (v c : Bool) (x : X) (xs : List X) → entered n (when (v && room n xs) x) (less_if c xs) ≡ less_if c xs ++ just_if (v && room n xs) x
enters n v c x xs = enters_at n v (room n xs) c x xs refl

-- the oldest entry leaves, and a new one stands behind the others
pub leaves : {X : Type 0} (c : Bool) (xs new : List X) → less_if (any xs && c) (xs ++ new) ≡ less_if c xs ++ new
leaves true [] new = refl
leaves false [] new = refl
leaves true (x ∷ xs) new = refl
leaves false (x ∷ xs) new = refl

pub is_when : {X : Type 0} (c : Bool) (x : X) → is_some (when c x) ≡ c
is_when true x = refl
is_when false x = refl
