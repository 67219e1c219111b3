-- What a word's fault says of the word.
use Rattle.std.specs.Prelude.{◌≡◌, ℕ, ◌<◌, List, length, None, slice_index}
use Rattle.explain.specs.Hex.{hex_digit}
use Rattle.explain.specs.declared.hex.NumberFault.{NumberFault}
use Rattle.explain.specs.declared.hex.NumberFault.TheVariants.{Empty, NotADigit, TooLarge}

-- an empty word is told as such, a byte is told that stands in the word and is no digit
abbrev pub AtFault : List ℕ → NumberFault → Type 0
AtFault w Empty = length w ≡ 0
AtFault w (NotADigit b) = (hex_digit b ≡ None) × ((k : ℕ) × (k < length w) × (slice_index w k ≡ b))
AtFault w TooLarge = 0 < length w
