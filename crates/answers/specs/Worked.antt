-- All worked cases: addresses, parts, lanes, verdicts and joined codes.
use Rattle.std.specs.Prelude.{◌≡◌, ℕ, List, [], ◌∷◌, ◌++◌, map}
use Rattle.axi.specs.Codes.{code_number, read_code}
use Rattle.parts.specs.Worked.{Case, worked}
use Rattle.axi.specs.declared.code.Code.TheVariants.{Okay}
use Rattle.answers.specs.Join.{total, join_codes}

-- these codes from below join to this one
abbrev joins_to : List ℕ → ℕ → Case
joins_to codes due = record { got = code_number (total Okay join_codes (map read_code codes)) ∷ []; due = due ∷ [] }

abbrev pub all_worked : List Case
all_worked = worked ++ (joins_to (0 ∷ 3 ∷ 2 ∷ []) 3 ∷ joins_to (0 ∷ 2 ∷ 3 ∷ []) 2 ∷ [])

-- every worked case comes out as it is due
abbrev pub AllWorkedCasesHold : Type 0
AllWorkedCasesHold = map (λ c. c.got) all_worked ≡ map (λ c. c.due) all_worked
