-- The join of a list and one more answer.
use Rattle.std.proofs.Common.{◌≡◌, List, [], ◌∷◌, ◌++◌, sym, ap, ◌∙◌}
use Rattle.answers.specs.Join.{total}

pub total_push : {X : Type 0} (none : X) (join : X → X → X) → ((x : X) → join none x ≡ x) → ((x : X) → join x none ≡ x) → ((x y z : X) → join (join x y) z ≡ join x (join y z)) →
    (xs : List X) (x : X) → join (total none join xs) x ≡ total none join (xs ++ (x ∷ []))
total_push none join l r a [] x = l x ∙ sym (r x)
total_push none join l r a (y ∷ ys) x = a y _ x ∙ ap (join y) (total_push none join l r a ys x)
