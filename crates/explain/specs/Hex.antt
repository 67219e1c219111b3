-- Hexadecimal numbers: digits 0-9 and a-f, lower case only.
use Rattle.std.specs.Prelude.{ℕ, ◌+◌, ◌-◌, ◌*◌, cond, ◌&&◌, List, [], ◌∷◌, Some, None, Option, nat_le}

-- what a byte stands for: 0-9 are the bytes 48 to 57, a-f the bytes 97 to 102
abbrev pub hex_digit : ℕ → Option ℕ
hex_digit b = cond (nat_le 48 b && nat_le b 57) (Some (b - 48)) (cond (nat_le 97 b && nat_le b 102) (Some (b - 87)) None)

abbrev pub on_digit : Option ℕ → (ℕ → Option ℕ) → Option ℕ
on_digit None f = None
on_digit (Some d) f = f d

-- the number that digits make behind those that make v
abbrev pub hex_after : ℕ → List ℕ → Option ℕ
hex_after v [] = Some v
hex_after v (b ∷ bs) = on_digit (hex_digit b) (λ d. hex_after (v * 16 + d) bs)

-- the number that a word writes; a word with no digit, or with another byte, writes none
abbrev pub hex_value : List ℕ → Option ℕ
hex_value [] = None
hex_value (b ∷ bs) = hex_after 0 (b ∷ bs)
