-- Faults: their numbers, their layers, and where they are.
use Rattle.std.specs.Prelude.{ℕ, ◌+◌, List, codes, take, count_by, nat_eq}
use Rattle.words.specs.declared.fault.Fault.{Fault}
use Rattle.words.specs.declared.fault.Layer.{Layer}
use Rattle.words.specs.declared.fault.Layer.TheVariants.{Words, Sections}
use Rattle.words.specs.declared.fault.Wrong.{Wrong}
use Rattle.words.specs.declared.fault.Wrong.TheVariants.{TooLong, NotDue, TooLarge, EndsEarly, Trailing}

abbrev pub wrong_number : Wrong → ℕ
wrong_number TooLong = 20
wrong_number NotDue = 21
wrong_number TooLarge = 22
wrong_number EndsEarly = 23
wrong_number Trailing = 24

-- what the user is told
abbrev pub wrong_text : Wrong → List ℕ
wrong_text TooLong = codes "the input is above 16,384 bytes"
wrong_text NotDue = codes "not the due word or separator"
wrong_text TooLarge = codes "the number is too large"
wrong_text EndsEarly = codes "the input ends too early"
wrong_text Trailing = codes "bytes stand after the last section"

abbrev pub layer_of : Wrong → Layer
layer_of TooLong = Words
layer_of NotDue = Words
layer_of TooLarge = Words
layer_of EndsEarly = Sections
layer_of Trailing = Sections

-- how many line ends there are
abbrev pub line_ends : List ℕ → ℕ
line_ends bytes = count_by (λ b. nat_eq b 10) bytes

-- a line is 1 + the line ends before the place
abbrev pub line_at : List ℕ → ℕ → ℕ
line_at s place = 1 + line_ends (take place s)

abbrev pub fault_at : List ℕ → Wrong → ℕ → Fault
fault_at s wrong place = record { wrong = wrong; line = line_at s place; place = place }
