-- The last line of a transcript.
use Rattle.std.specs.Prelude.{ℕ, List, [], ◌∷◌, ◌++◌, Ok, Err, Result, codes}
use Rattle.bridge.specs.declared.bridge.Owed as declared
use Rattle.transcript.specs.Faults.{layer_name, fault_layer, fault_number, fault_line, fault_place}
use Rattle.transcript.specs.Printing.{row, spaced}
use Rattle.transcript.specs.Printing.Base.{Decimal, Hex}
use Rattle.transcript.specs.declared.fault.PlayerFault.{PlayerFault}

-- how a playing ends: so much is owed, or a fault ended it
abbrev pub Ending : Type 0
Ending = Result declared.Owed PlayerFault

abbrev pub owed_numbers : declared.Owed → List ℕ
owed_numbers o = o.writes ∷ o.reads ∷ []

abbrev pub fault_numbers : PlayerFault → List ℕ
fault_numbers f = fault_number f ∷ fault_line f ∷ fault_place f ∷ []

abbrev pub fault_text : PlayerFault → List ℕ
fault_text f = codes "fault" ++ (32 ∷ (layer_name (fault_layer f) ++ spaced Decimal (fault_numbers f)))

-- what is owed, in hexadecimal; or the fault's layer, and its number, line and place in decimal
abbrev pub ending_line : Ending → List ℕ
ending_line (Ok o) = codes "owed" ++ (32 ∷ row Hex (owed_numbers o))
ending_line (Err f) = codes "fault" ++ (32 ∷ (layer_name (fault_layer f) ++ (32 ∷ row Decimal (fault_numbers f))))
