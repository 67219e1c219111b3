-- A number above 64 bits is written in two halves.
use Rattle.std.proofs.Common.{◌≡◌, ℕ, suc, zero, ◌+◌, ◌-◌, ◌*◌, ◌/◌, ◌%◌, ◌^◌, ◌<◌, false, List, [], ◌∷◌, ◌++◌, length, replicate, Some, Option, refl, sym, ap, ◌∙◌, append_assoc, append-nil, arith}
use Rattle.std.proofs.Math.Nat.{mul-pos, sub-zero, pow-zero, pow-suc, mul_assoc}
use Rattle.std.proofs.lemmas.List.{length_push, replicate_more}
use Rattle.std.specs.Fmt.{digits, padded_integral, format_spec, char_count, shown_prefix, ◌++?◌}
use Rattle.std.specs.Option.{option_map}
use Rattle.transcript.proofs.Digits.{hex_text, digits_step, numeral_some}
use Rattle.transcript.specs.Printing.{digit_byte, digits_of, numeral}
use Rattle.transcript.specs.Printing.Base.{Hex}

-- a numeral with zeros before it, to k digits
abbrev filled : ℕ → List ℕ → List ℕ
filled k ds = replicate (k - length ds) 48 ++ ds

padded : (ds : List ℕ) → padded_integral (format_spec 32 0 4 16 (2 ^ 64 - 1)) false [] ds ≡ filled 16 ds
unfolding padded_integral char_count
padded ds = simp (append-nil, sub-zero)

filled_nil : (k : ℕ) → filled k [] ++ (48 ∷ []) ≡ filled (k + 1) []
filled_nil k =
    let m = replicate_more {X = ℕ} k 48 in
    let a = append-nil (replicate {A = ℕ} k 48) in
    let b = append-nil (replicate {A = ℕ} (k + 1) 48) in
    let c = sub-zero k in
    let d = sub-zero (k + 1) in
    cc

filled_more : (k d : ℕ) (ds : List ℕ) → filled k ds ++ (d ∷ []) ≡ filled (k + 1) (ds ++ (d ∷ []))
filled_more k d ds =
    let long = length_push ds d in
    let same : k - length ds ≡ k + 1 - length (ds ++ (d ∷ [])) = omega (arith, long) in
    append_assoc (replicate (k - length ds) 48) ds (d ∷ []) ∙ ap (λ (z : ℕ). replicate z 48 ++ (ds ++ (d ∷ []))) same

filled_step : (k l : ℕ) → filled k (digits_of Hex (l / 16)) ++ (digit_byte (l % 16) ∷ []) ≡ filled (k + 1) (digits_of Hex l)
filled_step k zero = filled_nil k
filled_step k (suc l) =
    filled_more k (digit_byte (suc l % 16)) (digits_of Hex (suc l / 16)) ∙ ap (filled (k + 1)) (sym (digits_step Hex (suc l) (omega arith)))

-- the digits of a number in two parts, the lower one of k digits
parts : (k h l : ℕ) → 0 < h → l < 16 ^ k → digits_of Hex (h * 16 ^ k + l) ≡ digits_of Hex h ++ filled k (digits_of Hex l)
parts zero h l some few =
    let none : l ≡ 0 = omega (arith, pow-zero 16, few) in
    let whole : h * 16 ^ 0 + l ≡ h = omega (arith, pow-zero 16, none) in
    ap (digits_of Hex) whole ∙ sym (append-nil (digits_of Hex h)) ∙ ap (λ (z : ℕ). digits_of Hex h ++ filled 0 (digits_of Hex z)) (sym none)
parts (suc k) h l some few =
    let n = h * 16 ^ suc k + l in
    let q = h * 16 ^ k in
    let p = 16 ^ k in
    let power : 16 ^ suc k ≡ p * 16 = pow-suc 16 k in
    let split : h * 16 ^ suc k ≡ q * 16 = ap (λ (z : ℕ). h * z) power ∙ sym (mul_assoc h p 16) in
    let above : n / 16 ≡ q + l / 16 = omega (arith, split) in
    let last : n % 16 ≡ l % 16 = omega (arith, split) in
    let less : l / 16 < p = omega (arith, power, few) in
    let powered : 0 < p = omega (arith, less) in
    let pos : 0 < n = omega (arith, split, mul-pos some powered) in
    let more = parts k h (l / 16) some less in
    let step = digits_step Hex n pos in
    let end = filled_step k l in
    let join = append_assoc (digits_of Hex h) (filled k (digits_of Hex (l / 16))) (digit_byte (l % 16) ∷ []) in
    let one : suc k ≡ k + 1 = omega arith in
    cc

filled_numeral : (l : ℕ) → filled 16 (numeral Hex l) ≡ filled 16 (digits_of Hex l)
filled_numeral zero = refl
filled_numeral (suc l) = ap (filled 16) (numeral_some Hex (suc l) (omega arith))

-- a number in two halves
halves : (v : ℕ) → v < 2 ^ 128 → 0 < v / 2 ^ 64 → digits 16 false (v / 2 ^ 64) ++ filled 16 (digits 16 false (v % 2 ^ 64)) ≡ numeral Hex v
halves v few some =
    let h = v / 2 ^ 64 in
    let l = v % 2 ^ 64 in
    let high = hex_text h (omega arith) ∙ numeral_some Hex h some in
    let low = ap (filled 16) (hex_text l (omega arith)) ∙ filled_numeral l in
    let whole : h * 16 ^ 16 + l ≡ v = omega arith in
    let both = parts 16 h l some (omega arith) in
    let all = numeral_some Hex v (omega arith) in
    cc

-- what the library writes of the halves
pub shown : (x y : Option (List ℕ)) (s : _) (prefix : List ℕ) (v : ℕ) → v < 2 ^ 128 → 0 < v / 2 ^ 64 → x ≡ Some (digits 16 false (v / 2 ^ 64)) → y ≡ Some (digits 16 false (v % 2 ^ 64)) → s ≡ format_spec 32 0 4 16 (2 ^ 64 - 1) → (x ++? option_map (padded_integral s false (shown_prefix s prefix)) y) ≡ Some (numeral Hex v)
shown x y s prefix v few some high low spec =
    let ds = digits 16 false (v % 2 ^ 64) in
    let styled : option_map (padded_integral s false (shown_prefix s prefix)) y ≡ Some (filled 16 ds) =
    ap (λ z. option_map (padded_integral z false (shown_prefix z prefix)) y) spec
    ∙ ap (option_map (padded_integral (format_spec 32 0 4 16 (2 ^ 64 - 1)) false [])) low ∙ ap (λ (z : List ℕ). Some z) (padded ds) in
    ap (λ z. z ++? option_map (padded_integral s false (shown_prefix s prefix)) y) high ∙ ap (λ z. Some (digits 16 false (v / 2 ^ 64)) ++? z) styled
    ∙ ap (λ (z : List ℕ). Some z) (halves v few some)
