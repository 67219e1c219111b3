-- The digits of a number write it.
use Rattle.std.proofs.Common.{◌≡◌, ℕ, ◌^◌, ◌<◌, ◌≤◌, Bool, true, false, cond, eqb, List, [], ◌∷◌, map, length, sym, refl, ap, ◌∙◌, arith}
use Rattle.std.proofs.lemmas.Int.Digits.{length-digits_of_step, length-digits_of-le, all_below_base_digits_of, number_digits_of}
use Rattle.std.proofs.lemmas.List.{length-map}
use Rattle.std.proofs.lemmas.Bool.{eqb-true, eqb-false, and_from}
use Rattle.std.proofs.lemmas.Bool.Decides.{nat_tests}
use Rattle.std.specs.Int.Digits.{digits_of, number_from_digits, AllBelowBase}
use Rattle.words.specs.Numbers.{is_digit, is_number, digit_value, value_of}
use Rattle.script.specs.Writing.{digit_byte, hex}

digit_back : (d : ℕ) → d < 16 → digit_value (digit_byte d) ≡ d
digit_back d h = grind (arith, nat_tests)

digit_right : (d : ℕ) → d < 16 → is_digit (digit_byte d) ≡ true
digit_right d h = grind (arith, nat_tests)

digits_back : (ds : List ℕ) → AllBelowBase 16 ds → map digit_value (map digit_byte ds) ≡ ds
digits_back [] under = refl
digits_back (d ∷ ds) under = rw (digit_back d under.0, digits_back ds under.1)

digits_right : (ds : List ℕ) → AllBelowBase 16 ds → is_number (map digit_byte ds) ≡ true
digits_right [] under = refl
digits_right (d ∷ ds) under = and_from (is_digit (digit_byte d)) (is_number (map digit_byte ds)) (digit_right d under.0) (digits_right ds under.1)

-- a word of 1 to 16 digits with this value
pub record Spells (w : List ℕ) (v : ℕ) : Type 0 where
  pub some : 0 < length w
  pub few : length w ≤ 16
  pub digits : is_number w ≡ true
  pub value : value_of w ≡ v

spelt : (v : ℕ) (none : Bool) → eqb v 0 ≡ none → v < 2 ^ 64 → Spells (cond none (48 ∷ []) (map digit_byte (digits_of 16 v))) v
spelt v true e h = record { some = omega arith; few = omega arith; digits = refl; value = sym (eqb-true v 0 e) }
spelt v false e h =
    let some : 0 < v = omega (arith, eqb-false v 0 e) in
    let under = all_below_base_digits_of 16 v (omega arith) in
    let size = length-map (digits_of 16 v) digit_byte in
    record {
      some = omega (arith, size, length-digits_of_step 16 v (omega arith) some);
      few = omega (arith, size, length-digits_of-le 16 16 v (omega arith) h);
      digits = digits_right (digits_of 16 v) under;
      value = ap (number_from_digits 16) (digits_back (digits_of 16 v) under) ∙ number_digits_of 16 v (omega arith);
    }

pub hex_spells : (v : ℕ) → v < 2 ^ 64 → Spells (hex v) v
hex_spells v h = spelt v (eqb v 0) refl h
