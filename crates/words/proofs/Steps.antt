-- One number more of a line.
use Rattle.std.proofs.Common.{◌≡◌, ℕ, zero, suc, ◌^◌, ◌<◌, ◌≤◌, cond, ◌&&◌, ltb, leb, List, [], ◌∷◌, ◌++◌, length, get_or, take, drop, sym, refl, ap, ◌∙◌, arith}
use Rattle.std.proofs.lemmas.List.{append-nil, drop_all, take_all}
use Rattle.std.proofs.lemmas.Bool.{ltb-true, ltb-false, and_parts, cond_both}
use Rattle.words.proofs.Inverse.{then_got, passed}
use Rattle.words.specs.Carriers.{bits}
use Rattle.words.specs.Lines.{numbers, separator_before, Fit}
use Rattle.words.specs.Reading.{Read, then}
use Rattle.words.specs.Reading.Read.{got}
use Rattle.words.specs.Numbers.{is_number, value_of}
use Rattle.words.specs.Words.{word, number, separator}
use Rattle.words.specs.declared.carrier.Carrier.{Carrier}

-- the script stays the same from step to step
pub through : (a b c d : List ℕ) → a ≡ b → b ≡ c → c ≡ d → a ≡ d
through a b c d p q r = p ∙ q ∙ r

-- values that were read before
abbrev pub prefixed : List ℕ → Read (List ℕ) → Read (List ℕ)
prefixed vs reading = then reading (λ us end. got (vs ++ us) end)

-- the separator after the number at i
sep_inner : (cs : List Carrier) (k : ℕ) → k < length cs → 32 ≡ separator_before (drop k cs)
sep_inner [] k h = absurd (omega arith)
sep_inner (c ∷ cs) zero h = refl
sep_inner (c ∷ cs) (suc k) h = sep_inner cs k (omega arith)

sep_last : (cs : List Carrier) (k : ℕ) → length cs ≤ k → 10 ≡ separator_before (drop k cs)
sep_last cs k h = sym (ap separator_before (drop_all k cs h))

pub sep_at : (cs : List Carrier) (k n : ℕ) → n ≡ length cs → cond (ltb k n) 32 10 ≡ separator_before (drop k cs)
sep_at cs k n size = cond_both (ltb k n) 32 10 (λ x. x ≡ separator_before (drop k cs)) (λ e. sep_inner cs k (omega (arith, ltb-true k n e))) (λ e. sep_last cs k (omega (arith, ltb-false k n e)))

-- at the end of the line
pub line_all : (s : List ℕ) (cs : List Carrier) (vs : List ℕ) (i at : ℕ) → length cs ≤ i → length vs ≤ i → prefixed (take i vs) (numbers (drop i cs) s at) ≡ got vs at
line_all s cs vs i at h k = simp (drop_all i cs h, take_all i vs k, append-nil)

-- what was read is within its carrier
pub number_fits : (c : Carrier) (s : List ℕ) (at v after : ℕ) → number c s at ≡ got v after → v < 2 ^ bits c
number_fits c s at v after e =
    let p = then_got (word s at) _ v after e in
    let q = passed (is_number p.0) _ _ v after p.3 in
    let t = passed (leb (length p.0) 16 && ltb (value_of p.0) (2 ^ bits c)) _ _ v after q.1 in
    let low = ltb-true (value_of p.0) (2 ^ bits c) (and_parts (leb (length p.0) 16) _ t.0).1 in
    let same : value_of p.0 ≡ v = cc t.1 in
    omega arith

pub numbers_fit : (cs : List Carrier) (s : List ℕ) (at : ℕ) (vs : List ℕ) (end : ℕ) → numbers cs s at ≡ got vs end → Fit cs vs
numbers_fit [] s at vs end e = let none : [] ≡ vs = cc in rw (← none) tt
numbers_fit (c ∷ cs) s at vs end e =
    let p = then_got (number c s at) _ vs end e in
    let q = then_got (separator (separator_before cs) s p.1) _ vs end p.3 in
    let t = then_got (numbers cs s q.1) _ vs end q.3 in
    let all : (p.0 ∷ t.0) ≡ vs = cc t.3 in
    rw (← all) (number_fits c s at p.0 p.1 p.2, numbers_fit cs s q.1 t.0 t.1 t.2)

pub fit_at : (cs : List Carrier) (d : Carrier) (vs : List ℕ) → Fit cs vs → (i : ℕ) → i < length cs → get_or vs i 0 < 2 ^ bits (get_or cs i d)
fit_at [] d vs fit i h = absurd (omega arith)
fit_at (c ∷ cs) d [] fit i h = absurd fit
fit_at (c ∷ cs) d (v ∷ vs) fit zero h = fit.0
fit_at (c ∷ cs) d (v ∷ vs) fit (suc i) h = fit_at cs d vs fit.1 i (omega arith)
