-- A queue that shows its oldest entry and lets it leave when the test c holds.
use mathlib.Core.Path.{◌≡◌, refl, sym, ap, ◌∙◌}
use mathlib.Core.Bool.{Bool, true, false, ◌&&◌}
use mathlib.Core.List.{List, [], ◌∷◌, ◌++◌, append_assoc}
use Rattle.ledgers.specs.Lists.{just_if, less_if, any, oldest}
use Rattle.ledgers.proofs.Tests.{never}

-- what leaves stood before what stays
pub leaves_before_stays : {A : Type 0} (z : A) (c : Bool) (l : List A) → just_if (any l && c) (oldest z l) ++ less_if c l ≡ l
leaves_before_stays z true [] = refl
leaves_before_stays z false [] = refl
leaves_before_stays z true (a ∷ l) = refl
leaves_before_stays z false (a ∷ l) = refl

pub leaves_first : {A : Type 0} (z : A) (c : Bool) (l more : List A) → l ++ more ≡ just_if (any l && c)
    (oldest z l) ++ (less_if c l ++ more)
leaves_first z c l more = ap (λ u. u ++ more) (sym (leaves_before_stays z c l)) ∙ append_assoc (just_if (any l && c) (oldest z l)) (less_if c l) more

-- the oldest entry stays the oldest until it leaves
pub oldest_stays : {A : Type 0} (z : A) (l new : List A) (c : Bool) → any l ≡ true → c ≡ false →
    (any (less_if c l ++ new) ≡ true) × (oldest z (less_if c l ++ new) ≡ oldest z l)
oldest_stays z [] new c h k = never h
oldest_stays z (a ∷ l) new true h k = never (sym k)
oldest_stays z (a ∷ l) new false h k = (refl, refl)
