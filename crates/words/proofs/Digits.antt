-- One digit more of a number.
use Rattle.std.proofs.Common.{◌≡◌, ℕ, ◌+◌, ◌*◌, ◌^◌, ◌<◌, ◌≤◌, true, false, cond, ◌&&◌, List, [], ◌∷◌, map, length, get_or, take, Some, None, is_some, refl, sym, ap, ◌∙◌, mul-le-mul_right, pow-suc, add-one, arith}
use native.Mathlib.Nat.{pow-le-pow_right}
use Rattle.std.proofs.lemmas.List.{map_more}
use Rattle.std.proofs.lemmas.List.Folds.{list_all_at, list_all_more}
use Rattle.std.proofs.lemmas.Int.Digits.{number_push}
use Rattle.std.proofs.lemmas.Bool.Decides.{nat_tests}
use Rattle.std.specs.Int.Digits.{number_from_digits}
use Rattle.std.specs.List.{list_all}
use Rattle.words.specs.Numbers.{is_digit, is_number, digit_value, value_of}

pub all_number : (word : List ℕ) → list_all is_digit word ≡ is_number word
all_number [] = refl
all_number (b ∷ bs) = ap (λ x. is_digit b && x) (all_number bs)

pub found : (b : ℕ) → is_some (cond (is_digit b) (Some (digit_value b)) None) ≡ is_digit b
found b = grind (arith, nat_tests)

-- a word with another byte is no number
pub no_number : (word : List ℕ) (i : ℕ) → i < length word → None ≡ cond (is_digit (get_or word i 0)) (Some (digit_value (get_or word i 0))) None → is_number word ≡ false
no_number word i h e = sym (all_number word) ∙ list_all_at is_digit word i 0 h (grind (arith, nat_tests))

-- what the digit at i tells of the word as far as behind it
pub digit_got : (b d : ℕ) → Some d ≡ cond (is_digit b) (Some (digit_value b)) None → (is_digit b ≡ true) × (d ≡ digit_value b) × (d < 16)
digit_got b d e = grind (arith, nat_tests)

pub number_more : (word : List ℕ) (i : ℕ) → i < length word → is_number (take i word) ≡ true → is_digit (get_or word i 0) ≡ true → is_number (take (i + 1) word) ≡ true
number_more word i h e f =
    let before : list_all is_digit (take i word) ≡ true = all_number (take i word) ∙ e in
    sym (all_number (take (i + 1) word)) ∙ list_all_more is_digit word i 0 h ∙ simp (before, f)

pub value_more : (word : List ℕ) (i : ℕ) → i < length word → value_of (take (i + 1) word) ≡ value_of (take i word) * 16 + digit_value (get_or word i 0)
value_more word i h = ap (number_from_digits 16) (map_more digit_value word i 0 h) ∙ number_push 16 (map digit_value (take i word)) (digit_value (get_or word i 0))

pub below_more : (v d i : ℕ) → v < 16 ^ i → d < 16 → v * 16 + d < 16 ^ (i + 1)
below_more v d i h k = rw (add-one, pow-suc) (omega (arith, mul-le-mul_right 16 h))

pub below_top : (v i : ℕ) → v < 16 ^ i → i < 16 → v < 2 ^ 60
below_top v i h k =
    let low : i ≤ 15 = omega arith in
    let some : 0 < 16 = omega arith in
    let top : 16 ^ i ≤ 16 ^ 15 = pow-le-pow_right some low in
    omega arith
