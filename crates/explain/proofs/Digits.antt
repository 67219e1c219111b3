-- A word's number, digit by digit.
use Rattle.std.proofs.Common.{◌≡◌, ℕ, ◌+◌, ◌-◌, ◌*◌, ◌<◌, ◌≤◌, Bool, true, false, cond, ◌&&◌, ◌||◌, nat_le, List, [], ◌∷◌, length, get_or, drop, Some, None, Option, sym, refl, ap, ◌∙◌, arith}
use Rattle.std.proofs.lemmas.Bool.{leb-true}
use Rattle.std.proofs.lemmas.List.{at_drop_more}
use Rattle.explain.specs.Hex.{hex_digit, on_digit, hex_after}
use Rattle.words.specs.Numbers.{is_digit, digit_value}

digit_cases : (p q r s : Bool) (x y : ℕ) → (q ≡ true → r ≡ true → ⊥) → cond ((p && q) || (r && s)) (Some (cond q x y)) None ≡ cond (p && q) (Some x) (cond (r && s) (Some y) None)
digit_cases true true r s x y apart = refl
digit_cases true false r s x y apart = refl
digit_cases false true true s x y apart = absurd (apart refl refl)
digit_cases false true false s x y apart = refl
digit_cases false false r s x y apart = refl

-- a digit as a script's words have it
abbrev pub word_digit : ℕ → Option ℕ
word_digit b = cond (is_digit b) (Some (digit_value b)) None

-- the digits of the input are the same, and count the same
pub same_digit : (b : ℕ) → word_digit b ≡ hex_digit b
same_digit b = digit_cases (nat_le 48 b) (nat_le b 57) (nat_le 97 b) (nat_le b 102) (b - 48) (b - 87) (λ low high. omega (arith, leb-true b 57 low, leb-true 97 b high))

-- more digits make no smaller number
grown_by : (o : Option ℕ) (bs : List ℕ) (v x : ℕ) → ((w : ℕ) → hex_after w bs ≡ Some x → w ≤ x) → on_digit o (λ d. hex_after (v * 16 + d) bs) ≡ Some x → v ≤ x
grown_by None bs v x more e = let z : ◌≡◌ {A = ℕ} 0 1 = cc in omega arith
grown_by (Some d) bs v x more e = omega (arith, more (v * 16 + d) e)

pub after_grows : (bs : List ℕ) (v x : ℕ) → hex_after v bs ≡ Some x → v ≤ x
after_grows [] v x e = let same : v ≡ x = cc in omega arith
after_grows (b ∷ bs) v x e = grown_by (hex_digit b) bs v x (λ w. after_grows bs w x) e

-- the next byte is a digit, and goes behind the number so far
pub after_digit : (w : List ℕ) (i v d : ℕ) → i < length w → Some d ≡ word_digit (get_or w i 0) → hex_after (v * 16 + d) (drop (i + 1) w) ≡ hex_after v (drop i w)
after_digit w i v d h e = ap (λ o. on_digit o (λ d. hex_after (v * 16 + d) (drop (i + 1) w))) (e ∙ same_digit (get_or w i 0)) ∙ sym (at_drop_more (hex_after v) w i 0 h)
