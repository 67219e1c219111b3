-- Numbers that are written one after the other.
use Rattle.std.proofs.Common.{◌≡◌, ℕ, ◌+◌, ◌<◌, ◌^◌, false, List, [], ◌∷◌, ◌++◌, length, get_or, take, Some, Option, Result, subst, ap, ◌∙◌, append_assoc, append-nil, arith}
use Rattle.std.proofs.lemmas.Grind.{flat_map-append}
use Rattle.std.proofs.lemmas.List.{take_more}
use Rattle.std.specs.Fmt.{digits, DisplaysOnOk, WritesOnOk, ◌++?◌}
use Rattle.std.specs.declared.fmt.Error.{Error}
use Rattle.std.specs.declared.fmt.Formatter.{Formatter}
use Rattle.transcript.proofs.Digits.{hex_text}
use Rattle.transcript.specs.Crossings.{channel, fields, crossing_text, entry_line}
use Rattle.transcript.specs.declared.crossing.Crossing.{Crossing}
use Rattle.transcript.specs.declared.crossing.Crossing.TheVariants.{Lb}
use Rattle.transcript.specs.Printing.{numeral, row, spaced, Base}
use Rattle.transcript.specs.Printing.Base.{Hex}

-- text that is known is written
pub known : {W : Type 0} (took : W → List ℕ → W → Type 0) (f : Formatter W) (r : Result (Unit {0}) Error) (g : Formatter W) (o : Option (List ℕ)) (text : List ℕ) → o ≡ Some text → DisplaysOnOk took f r o g → WritesOnOk took f r text g
known took f r g o text is h = subst (λ (z : Option (List ℕ)). DisplaysOnOk took f r z g) is h

-- a space and a number
pub number : (x : Option (List ℕ)) (v : ℕ) → v < 2 ^ 64 → x ≡ Some (digits 16 false v) → (Some (32 ∷ []) ++? x) ≡ Some (32 ∷ numeral Hex v)
number x v few is =
    let h = hex_text v few in
    cc

-- one number more
pub spaced_more : (vs : List ℕ) (i : ℕ) → i < length vs → spaced Hex (take i vs) ++ (32 ∷ numeral Hex (get_or vs i 0)) ≡ spaced Hex (take (i + 1) vs)
spaced_more vs i more =
    let t = take_more vs i 0 more in
    let a = flat_map-append (λ v. 32 ∷ numeral Hex v) (take i vs) (get_or vs i 0 ∷ []) in
    let e = append-nil (numeral Hex (get_or vs i 0)) in
    cc

-- the numbers that end a line
row_ended : (base : Base) (vs : List ℕ) → 0 < length vs → spaced base vs ++ (10 ∷ []) ≡ 32 ∷ row base vs
row_ended base [] some = elim some [ ]
row_ended base (v ∷ []) some = ap (λ (z : List ℕ). 32 ∷ (z ++ (10 ∷ []))) (append-nil (numeral base v))
row_ended base (v ∷ w ∷ ws) some =
    ap (λ (z : List ℕ). 32 ∷ z)
    (append_assoc (numeral base v) (spaced base (w ∷ ws)) (10 ∷ []) ∙ ap (λ (z : List ℕ). numeral base v ++ z) (row_ended base (w ∷ ws) (omega arith)))

has_fields : (c : Crossing) → 0 < length (fields c)
has_fields (Lb c) = omega arith
has_fields c = omega arith

-- the line of a crossing
pub line : (x : Option (List ℕ)) (edge : ℕ) (c : Crossing) → edge < 2 ^ 64 → x ≡ Some (digits 16 false edge) → (x ++? Some (32 ∷ []) ++? Some (crossing_text c) ++? Some (10 ∷ [])) ≡ Some (entry_line edge c)
line x edge c few is =
    let h = hex_text edge few in
    let e = row_ended Hex (fields c) (has_fields c) in
    let a = append_assoc (channel c) (spaced Hex (fields c)) (10 ∷ []) in
    cc
