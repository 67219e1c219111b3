-- Lines of numbers.
use Rattle.std.specs.Prelude.{ℕ, ◌^◌, ◌<◌, List, [], ◌∷◌}
use Rattle.words.specs.Carriers.{bits}
use Rattle.words.specs.Reading.{Read, then}
use Rattle.words.specs.Reading.Read.{got}
use Rattle.words.specs.Words.{keyword, number, separator}
use Rattle.words.specs.declared.carrier.Carrier.{Carrier}

-- the separator before the numbers that are left: a space, or a line end where none is left
abbrev pub separator_before : List Carrier → ℕ
separator_before [] = 10
separator_before (c ∷ cs) = 32

-- the numbers of a line, one for each carrier
abbrev pub numbers : List Carrier → List ℕ → ℕ → Read (List ℕ)
numbers [] s at = got [] at
numbers (c ∷ cs) s at = then (number c s at) (λ v after. then (separator (separator_before cs) s after) (λ _ next. then (numbers cs s next) (λ vs end. got (v ∷ vs) end)))

-- a line that begins with a keyword
abbrev pub headed : List ℕ → List Carrier → List ℕ → ℕ → Read (List ℕ)
headed due cs s at = then (keyword due s at) (λ _ after. then (separator 32 s after) (λ _ next. numbers cs s next))

-- each number is within its carrier
abbrev pub Fit : List Carrier → List ℕ → Type 0
Fit [] [] = Unit {0}
Fit [] (v ∷ vs) = ⊥
Fit (c ∷ cs) [] = ⊥
Fit (c ∷ cs) (v ∷ vs) = (v < 2 ^ bits c) × Fit cs vs
