-- A beat has a power of two of bytes.
use Rattle.std.proofs.Common.{◌≡◌, ℕ, zero, suc, ◌^◌, ◌≤◌, get_or, refl, arith}
use Rattle.axi.specs.Bursts.{lengths, bytes}
use Rattle.axi.specs.declared.burst.Burst.{Burst}

pub record Power (s : ℕ) : Type 0 where
  pub exponent : ℕ
  pub small : exponent ≤ 8
  pub is : s ≡ 2 ^ exponent

pub length_power : (size : ℕ) → Power (get_or lengths size 256)
length_power zero = record { exponent = 0; small = omega arith; is = refl }
length_power (suc zero) = record { exponent = 1; small = omega arith; is = refl }
length_power (suc (suc zero)) = record { exponent = 2; small = omega arith; is = refl }
length_power (suc (suc (suc zero))) = record { exponent = 3; small = omega arith; is = refl }
length_power (suc (suc (suc (suc zero)))) = record { exponent = 4; small = omega arith; is = refl }
length_power (suc (suc (suc (suc (suc zero))))) = record { exponent = 5; small = omega arith; is = refl }
length_power (suc (suc (suc (suc (suc (suc zero)))))) = record { exponent = 6; small = omega arith; is = refl }
length_power (suc (suc (suc (suc (suc (suc (suc zero))))))) = record { exponent = 7; small = omega arith; is = refl }
length_power (suc (suc (suc (suc (suc (suc (suc (suc n)))))))) = record { exponent = 8; small = omega arith; is = refl }

pub bytes_power : (b : Burst) → Power (bytes b)
bytes_power b = length_power b.size
