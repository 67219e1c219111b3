-- Functions on lists and tests that the ledgers and the bridge share. The oldest entry of a list is its first.
use Rattle.std.specs.Prelude.{◌≡◌, Bool, true, false, List, [], ◌∷◌, ◌++◌, ℕ, zero, suc}

-- 1 if the test holds, else 0
abbrev pub one_if : Bool → ℕ
one_if true = 1
one_if false = 0

-- one entry if the test holds, else none
abbrev pub just_if : {A : Type 0} → Bool → A → List A
just_if true x = x ∷ []
just_if false x = []

-- the list without its oldest entry if the test holds, else the list
abbrev pub less_if : {A : Type 0} → Bool → List A → List A
less_if true [] = []
less_if true (x ∷ xs) = xs
less_if false xs = xs

-- the list has an entry
abbrev pub any : {A : Type 0} → List A → Bool
any [] = false
any (x ∷ xs) = true

-- the oldest entry, or z where there is none
abbrev pub oldest : {A : Type 0} → A → List A → A
oldest z [] = z
oldest z (x ∷ xs) = x

-- the list has n entries or more
abbrev pub covers : {A : Type 0} → ℕ → List A → Bool
covers zero xs = true
covers (suc n) [] = false
covers (suc n) (x ∷ xs) = covers n xs

-- the first list is a beginning of the second: its first entries, none to all of them
abbrev pub Begins : {A : Type 0} → List A → List A → Type 0
Begins {A} xs ys = (rest : List A) × (ys ≡ xs ++ rest)
