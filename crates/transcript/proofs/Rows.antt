-- Lines, piece by piece.
use Rattle.std.proofs.Common.{◌≡◌, ℕ, ◌+◌, ◌<◌, ◌≤◌, List, [], ◌∷◌, ◌++◌, length, get_or, drop, ap, append_assoc}
use Rattle.std.proofs.lemmas.List.{at_drop_more, at_drop_all}
use Rattle.transcript.specs.Printing.{numeral, row, separator_to, Base}

-- what follows a number: a space before another one, else a line end
pub space_before : (vs : List ℕ) (i : ℕ) → i < length vs → separator_to (drop i vs) ≡ 32
space_before vs i h = at_drop_more separator_to vs i 0 h

pub end_after : (vs : List ℕ) (i : ℕ) → length vs ≤ i → separator_to (drop i vs) ≡ 10
end_after vs i h = at_drop_all separator_to vs i h

-- one number more, and its separator
pub row_more : (base : Base) (vs : List ℕ) (i sep : ℕ) (before after : List ℕ) → i < length vs → sep ≡ separator_to (drop (i + 1) vs) → after ≡ (before ++ numeral base (get_or vs i 0)) ++ (sep ∷ []) → after ++ row base (drop (i + 1) vs) ≡ before ++ row base (drop i vs)
row_more base vs i sep before after h is added =
    let n = numeral base (get_or vs i 0) in
    let rest = row base (drop (i + 1) vs) in
    let step : row base (drop i vs) ≡ n ++ (separator_to (drop (i + 1) vs) ∷ rest) = at_drop_more (row base) vs i 0 h in
    let a : ((before ++ n) ++ (sep ∷ [])) ++ rest ≡ before ++ (n ++ (sep ∷ rest)) = simp append_assoc in
    let b : after ++ rest ≡ ((before ++ n) ++ (sep ∷ [])) ++ rest = ap (λ (z : List ℕ). z ++ rest) added in
    cc

-- an edge, a channel and fields
pub line_joined : (before n w fields : List ℕ) → (((before ++ n) ++ (32 ∷ [])) ++ (w ++ (32 ∷ []))) ++ fields ≡ before ++ (n ++ (32 ∷ (w ++ (32 ∷ fields))))
line_joined before n w fields = simp append_assoc
