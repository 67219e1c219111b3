-- Digits, and the numbers that they write.
use Rattle.std.specs.Prelude.{ℕ, ◌-◌, Bool, true, cond, ◌&&◌, ◌||◌, List, [], ◌∷◌, map, nat_le}
use Rattle.std.specs.Int.Digits.{number_from_digits}

-- a digit is 0 to 9 or a to f
abbrev pub is_digit : ℕ → Bool
is_digit b = (nat_le 48 b && nat_le b 57) || (nat_le 97 b && nat_le b 102)

abbrev pub digit_value : ℕ → ℕ
digit_value b = cond (nat_le b 57) (b - 48) (b - 87)

-- a word is a number if each of its bytes is a digit
abbrev pub is_number : List ℕ → Bool
is_number [] = true
is_number (b ∷ bs) = is_digit b && is_number bs

-- the value in base 16
abbrev pub value_of : List ℕ → ℕ
value_of word = number_from_digits 16 (map digit_value word)
