-- A list cut at the first place of a mark.
use Rattle.std.proofs.Common.{◌≡◌, ℕ, ◌+◌, ◌<◌, ◌==◌, Bool, true, false, cond, List, ◌∷◌, ◌++◌, Some, None, length, get_or, take, drop, position, sym, refl, ap, ◌∙◌, arith}
use Rattle.std.specs.List.{position_or_len}
use Rattle.std.proofs.lemmas.Bool.{eqb-true, eq-eqb, ltb-false}
use Rattle.std.proofs.lemmas.List.{take-append-drop, drop_more, length-take-le, length-drop, get_or-take}
use Rattle.std.proofs.lemmas.List.Quantifiers.{position-Some}
use Rattle.std.proofs.lemmas.List.Sums.{fails_before_first}
use Rattle.explain.specs.Cuts.{Free}

no_place : (b : Bool) (i : ℕ) → cond b (Some i) None ≡ None → b ≡ false
no_place true i e = cc
no_place false i e = refl

other : (b m : ℕ) → (b == m) ≡ false → b ≡ m → ⊥
other b m e same = let z : true ≡ false = sym (eq-eqb b m same) ∙ e in cc

-- without a place the mark stands nowhere
pub free_of : (xs : List ℕ) (m : ℕ) → position (λ b. b == m) xs ≡ None → Free m xs
free_of xs m e k h same =
    let past = ltb-false (position_or_len (λ b. b == m) xs) (length xs) (no_place _ _ e) in
    other (get_or xs k 0) m (fails_before_first (λ b. b == m) xs k 0 (omega (arith, past, h))) same

-- the parts on both sides of the first place
pub cut_at : (xs : List ℕ) (m i : ℕ) → position (λ b. b == m) xs ≡ Some i →
    Free m (take i xs) × (xs ≡ take i xs ++ m ∷ drop (i + 1) xs) × (length (take i xs) + length (drop (i + 1) xs) < length xs)
cut_at xs m i e =
    let at = position-Some (λ b. b == m) xs i 0 e in
    let h = at.0 in
    let len = length-take-le i xs (omega arith) in
    let len' = length-drop (i + 1) xs in (
      λ k below f. let lt : k < i = omega arith in other (get_or xs k 0) m (at.2 k lt) (sym (get_or-take i xs k 0 lt) ∙ f),
      sym (take-append-drop i xs) ∙ ap (λ t. take i xs ++ t) (drop_more xs i 0 h ∙ ap (λ b. b ∷ drop (i + 1) xs) (eqb-true (get_or xs i 0) m at.1)),
      omega arith,
    )
