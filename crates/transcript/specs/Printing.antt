-- Numbers and lines of a transcript, as bytes.
use Rattle.std.specs.Prelude.{◌≡◌, ℕ, ◌+◌, cond, List, [], ◌∷◌, ◌++◌, map, ◌==◌, nat_lt, Result, OnOk}
use Rattle.std.specs.List.{flat_map}
use Rattle.std.specs.Int.Digits.{digits_of as digitsOf}

-- the base that a number is written in
pub data Base : Type 0 where
  Decimal : Base
  Hex : Base

abbrev pub base_of : Base → ℕ
base_of Decimal = 10
base_of Hex = 16

-- 0 to 9, a to f
abbrev pub digit_byte : ℕ → ℕ
digit_byte d = cond (nat_lt d 10) (d + 48) (d + 87)

-- the digits of a number; none of 0
abbrev pub digits_of : Base → ℕ → List ℕ
digits_of base v = map digit_byte (digitsOf (base_of base) v)

-- a number without leading zeros; 0 is one digit
abbrev pub numeral : Base → ℕ → List ℕ
numeral base v = cond (v == 0) (48 ∷ []) (digits_of base v)

-- a space before more numbers, a line end after the last
abbrev pub separator_to : List ℕ → ℕ
separator_to [] = 10
separator_to (v ∷ vs) = 32

-- the numbers that end a line
abbrev pub row : Base → List ℕ → List ℕ
row base [] = []
row base (v ∷ vs) = numeral base v ++ (separator_to vs ∷ row base vs)

-- the numbers of a line, with a space before each
abbrev pub spaced : Base → List ℕ → List ℕ
spaced base vs = flat_map (λ v. 32 ∷ numeral base v) vs

-- a call that succeeds writes this text after what is there
abbrev pub Writes : {E : Type 0} → Result (Unit {0}) E → List ℕ → List ℕ → List ℕ → Type 0
Writes r before after text = OnOk r (after ≡ before ++ text)
