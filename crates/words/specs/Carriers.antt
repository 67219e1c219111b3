-- Carriers of numbers.
use Rattle.std.specs.Prelude.{ℕ}
use Rattle.words.specs.declared.carrier.Carrier.{Carrier}
use Rattle.words.specs.declared.carrier.Carrier.TheVariants.{Bits8, Bits10, Bits16, Bits32, Bits64}

abbrev pub bits : Carrier → ℕ
bits Bits8 = 8
bits Bits10 = 10
bits Bits16 = 16
bits Bits32 = 32
bits Bits64 = 64
