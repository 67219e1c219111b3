-- The crossings that are there, as the library's `flatten` gives them.
use Rattle.std.proofs.Common.{◌≡◌, Bool, true, false, cond, List, [], ◌∷◌, length, Some, None, Option, Bor, refl, subst, sym, ap, ◌∙◌}
use Rattle.std.proofs.lemmas.Iterator.{YieldsList}
use Rattle.std.proofs.lemmas.Iterator.Consumers.{YieldsList-from_shown}
use Rattle.std.specs.Bool.{IsTrue, MatchBool}
use Rattle.std.specs.Iterator.Adapters.{option_iter_item, option_iter_done, option_iter_steps}
use Rattle.std.specs.List.{flat_map}
use Rattle.std.specs.Option.{option_to_list}
use Rattle.std.specs.declared.option.Iter.{OptionIter}
use Rattle.transcript.specs.Crossings.{there}
use Rattle.transcript.specs.declared.crossing.Crossing.{Crossing}

-- what an option's iterator has left
abbrev left : {A : Type 0} → OptionIter A → List A
left s = cond (option_iter_done s) [] (option_to_list (option_iter_item s))

ended : {A : Type 0} (d : Bool) (o : Option A) → MatchBool d (◌≡◌ {A = Option (Bor A)} None None) (None ≡ o) → length (cond d [] (option_to_list o)) ≡ 0
ended true o h = refl
ended false o h = ap (λ z. length (option_to_list z)) (sym h)

given : {A : Type 0} (d e : Bool) (o p : Option A) (x : Bor A) → IsTrue e → MatchBool d (Some x ≡ None) (Some x.now ≡ o) → cond d [] (option_to_list o) ≡ x.now ∷ cond e [] (option_to_list p)
given true e o p x t h = cc
given false e o p x t h = ap option_to_list (sym h) ∙ ap (λ (z : Bool). x.now ∷ cond z [] (option_to_list p)) (sym t)

-- an option gives what it holds
pub gives : {A : Type 0} (s : OptionIter A) (o : Option A) → option_iter_item s ≡ o → option_iter_done s ≡ false → YieldsList option_iter_steps (λ (y : Bor A). y.now) s (option_to_list o)
gives {A} s o item done =
    subst (YieldsList option_iter_steps (λ (y : Bor A). y.now) s)
    (ap (λ (z : Bool). cond z [] (option_to_list (option_iter_item s))) done ∙ ap option_to_list item)
    (
    YieldsList-from_shown option_iter_steps (λ (y : Bor A). y.now) left
    (λ s t h. ended (option_iter_done s) (option_iter_item s) h.1)
    (λ s x t h. given (option_iter_done s) (option_iter_done t) (option_iter_item s) (option_iter_item t) x h.0 h.1)
    s
    )

pub there_is : (cs : List (Option Crossing)) → flat_map option_to_list cs ≡ there cs
there_is [] = refl
there_is (None ∷ cs) = there_is cs
there_is (Some c ∷ cs) = ap (λ (z : List Crossing). c ∷ z) (there_is cs)
