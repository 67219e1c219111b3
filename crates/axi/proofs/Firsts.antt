-- The first rule of two lists in a row: of the one, or else of the other.
use Rattle.std.proofs.Common.{◌≡◌, Bool, true, false, cond, List, [], ◌∷◌, ◌++◌, Some, None, Option, sym, refl, ap, ◌∙◌}
use Rattle.axi.specs.First.{first_that}

pub either : {X : Type 0} → Option X → X → X
either None y = y
either (Some x) y = x

test_first : {X : Type 0} (t : Bool) (x : X) (rest : X) (o : Option X) (other : X) → rest ≡ either o other → cond t x rest ≡ either (cond t (Some x) o) other
unfolding either
test_first true x rest o other e = refl
test_first false x rest o other e = e

in_a_row : {X : Type 0} (test : X → Bool) (d : X) (xs ys : List X) →
    first_that test (λ v. v) d (xs ++ ys) ≡ either (first_that test (λ v. Some v) None xs) (first_that test (λ v. v) d ys)
unfolding either
in_a_row test d [] ys = refl
in_a_row test d (x ∷ xs) ys = test_first (test x) x _ _ _ (in_a_row test d xs ys)

pub first_found : {X : Type 0} (test : X → Bool) (d : X) (xs ys : List X) (v : X) → Some v ≡ first_that test (λ v. Some v) None xs → v ≡ first_that test (λ v. v) d (xs ++ ys)
unfolding either
first_found test d xs ys v e = ap (λ o. either o (first_that test (λ u. u) d ys)) e ∙ sym (in_a_row test d xs ys)

pub none_found : {X : Type 0} (test : X → Bool) (d : X) (xs ys : List X) → None ≡ first_that test (λ v. Some v) None xs → first_that test (λ v. v) d ys ≡ first_that test (λ v. v) d (xs ++ ys)
unfolding either
none_found test d xs ys e = ap (λ o. either o (first_that test (λ u. u) d ys)) e ∙ sym (in_a_row test d xs ys)
