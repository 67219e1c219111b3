-- The library's text of a number is its numeral.
use Rattle.std.proofs.Common.{◌≡◌, ℕ, suc, zero, ◌/◌, ◌%◌, ◌^◌, ◌<◌, ◌≤◌, ◌==◌, Bool, true, false, cond, List, [], ◌∷◌, ◌++◌, refl, subst, ap, ◌∙◌, append_assoc, append-nil, lit≤, arith}
use mathlib.Core.List.{map-append}
use Rattle.std.proofs.Math.Nat.{div-lt_iff_lt-mul, pow-suc, pow-zero, zero-div}
use Rattle.std.proofs.Math.Dec.{eqb-suc-zero}
use Rattle.std.proofs.lemmas.Bool.{eqb-true, eqb-false}
use Rattle.std.proofs.lemmas.Int.Digits.{digits_of_step}
use Rattle.std.specs.Fmt.{digits, digits_onto, digit_glyph}
use Rattle.std.specs.Int.Digits.{digits_of as digitsOf}
use Rattle.transcript.specs.Printing.{base_of, digit_byte, digits_of, numeral, Base}
use Rattle.transcript.specs.Printing.Base.{Decimal, Hex}

two : (base : Base) → 2 ≤ base_of base
two Decimal = lit≤ tt
two Hex = lit≤ tt

-- one digit more of a number
pub digits_step : (base : Base) (v : ℕ) → 0 < v → digits_of base v ≡ digits_of base (v / base_of base) ++ (digit_byte (v % base_of base) ∷ [])
digits_step base v pos =
    let s = digits_of_step (base_of base) v (two base) pos in
    let m = map-append digit_byte (digitsOf (base_of base) (v / base_of base)) (v % base_of base ∷ []) in
    cc

glyph : (d : ℕ) → digit_glyph false d ≡ digit_byte d
glyph d = grind arith

pub numeral_some : (base : Base) (v : ℕ) → 0 < v → numeral base v ≡ digits_of base v
numeral_some base zero h = elim h [ ]
numeral_some base (suc v) h = ap (λ (b : Bool). cond b (48 ∷ []) (digits_of base (suc v))) (eqb-suc-zero v)

-- a number of one digit
numeral_last : (base : Base) (v : ℕ) → v / base_of base ≡ 0 → numeral base v ≡ digit_byte (v % base_of base) ∷ []
numeral_last Decimal zero h = refl
numeral_last Hex zero h = refl
numeral_last base (suc v) h =
    let step = digits_step base (suc v) (omega arith) in
    let none = ap (digits_of base) h in
    let some = numeral_some base (suc v) (omega arith) in
    cc

more_than : (v b : ℕ) → 0 < v / b → 0 < v
more_than zero b h = omega (arith, zero-div b, h)
more_than (suc v) b h = omega arith

fewer : (base : Base) (k v : ℕ) → v < base_of base ^ suc k → v / base_of base < base_of base ^ k
fewer base k v few =
    let pos : 0 < base_of base = omega (arith, two base) in
    (div-lt_iff_lt-mul {k = base_of base} {x = v} {y = base_of base ^ k} pos).1 (subst (λ (z : ℕ). v < z) (pow-suc (base_of base) k) few)

onto_by : (base : Base) (k v : ℕ) (acc : List ℕ) (b : Bool) → (v / base_of base == 0) ≡ b → ((acc : List ℕ) → 0 < v / base_of base → digits_onto k (base_of base) false (v / base_of base) acc ≡ numeral base (v / base_of base) ++ acc) → digits_onto (suc k) (base_of base) false v acc ≡ numeral base v ++ acc
onto_by base k v acc true last more =
    let g = glyph (v % base_of base) in
    let one = numeral_last base v (eqb-true (v / base_of base) 0 last) in
    cc
onto_by base k v acc false last more =
    let g = glyph (v % base_of base) in
    let some : 0 < v / base_of base = omega (arith, eqb-false (v / base_of base) 0 last) in
    let pos : 0 < v = more_than v (base_of base) some in
    let rest = more (digit_byte (v % base_of base) ∷ acc) some in
    let front = numeral_some base (v / base_of base) some in
    let all = numeral_some base v pos in
    let step = digits_step base v pos in
    let a = append_assoc (digits_of base (v / base_of base)) (digit_byte (v % base_of base) ∷ []) acc in
    cc

onto : (base : Base) (k v : ℕ) (acc : List ℕ) → v < base_of base ^ k → 0 < v → digits_onto k (base_of base) false v acc ≡ numeral base v ++ acc
onto base zero v acc few some = let no : ⊥ = omega (arith, pow-zero (base_of base), few, some) in elim no [ ]
onto base (suc k) v acc few some = onto_by base k v acc (v / base_of base == 0) refl (λ acc pos. onto base k (v / base_of base) acc (fewer base k v few) pos)

-- what the library writes of a number of 64 bits
text_is : (base : Base) (v : ℕ) → v < base_of base ^ 64 → digits (base_of base) false v ≡ numeral base v
unfolding digits
text_is Decimal zero few = refl
text_is Hex zero few = refl
text_is base (suc v) few = onto base 64 (suc v) [] few (omega arith) ∙ append-nil (numeral base (suc v))

pub hex_text : (v : ℕ) → v < 2 ^ 64 → digits 16 false v ≡ numeral Hex v
hex_text v few = text_is Hex v (omega (arith, few))

pub decimal_text : (v : ℕ) → v < 2 ^ 64 → digits 10 false v ≡ numeral Decimal v
decimal_text v few = text_is Decimal v (omega (arith, few))
