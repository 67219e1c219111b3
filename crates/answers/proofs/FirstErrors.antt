-- Codes join lawfully, and in order to the first error among them.
use Rattle.std.proofs.Common.{◌≡◌, List, [], ◌∷◌, fold, refl, ◌∙◌}
use Rattle.axi.specs.declared.code.Code.{Code}
use Rattle.axi.specs.declared.code.Code.TheVariants.{Okay, SlvErr, DecErr}
use Rattle.answers.specs.Join.{total, join_codes}
use Rattle.answers.specs.FirstError.{first_error}
use Rattle.answers.specs.declared.collector.Collector.{Collector}

pub joins_to_first_error : (cs : List Code) → total Okay join_codes cs ≡ first_error cs
joins_to_first_error [] = refl
joins_to_first_error (Okay ∷ cs) = joins_to_first_error cs
joins_to_first_error (SlvErr ∷ cs) = refl
joins_to_first_error (DecErr ∷ cs) = refl

-- an error stands, whatever follows it
slverr_stands : (cs : List Code) → fold join_codes SlvErr cs ≡ SlvErr
slverr_stands [] = refl
slverr_stands (c ∷ cs) = slverr_stands cs

decerr_stands : (cs : List Code) → fold join_codes DecErr cs ≡ DecErr
decerr_stands [] = refl
decerr_stands (c ∷ cs) = decerr_stands cs

-- from OKAY, code by code
pub folds_to_first_error : (cs : List Code) → fold join_codes Okay cs ≡ first_error cs
folds_to_first_error [] = refl
folds_to_first_error (Okay ∷ cs) = folds_to_first_error cs
folds_to_first_error (SlvErr ∷ cs) = slverr_stands cs
folds_to_first_error (DecErr ∷ cs) = decerr_stands cs

-- a collector of codes, code by code
abbrev pub collect : Collector Code → Code → Collector Code
collect all c = record { sum = join_codes all.sum c }

collects : (cs : List Code) (c : Code) → (fold collect (record { sum = c }) cs).sum ≡ fold join_codes c cs
collects [] c = refl
collects (d ∷ cs) c = collects cs (join_codes c d)

-- what it collects from OKAY on is the first error
pub collects_to_first_error : (cs : List Code) → (fold collect (record { sum = Okay }) cs).sum ≡ first_error cs
collects_to_first_error cs = collects cs Okay ∙ folds_to_first_error cs

pub code_right : (x : Code) → join_codes x Okay ≡ x
code_right Okay = refl
code_right SlvErr = refl
code_right DecErr = refl

pub code_assoc : (x y z : Code) → join_codes (join_codes x y) z ≡ join_codes x (join_codes y z)
code_assoc Okay y z = refl
code_assoc SlvErr y z = refl
code_assoc DecErr y z = refl
