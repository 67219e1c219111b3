-- The first error among codes.
use Rattle.std.specs.Prelude.{List, [], ◌∷◌}
use Rattle.axi.specs.declared.code.Code.{Code}
use Rattle.axi.specs.declared.code.Code.TheVariants.{Okay, SlvErr, DecErr}

-- the first code of the list that is SLVERR or DECERR, or OKAY where there is none
abbrev pub first_error : List Code → Code
first_error [] = Okay
first_error (Okay ∷ cs) = first_error cs
first_error (SlvErr ∷ cs) = SlvErr
first_error (DecErr ∷ cs) = DecErr
