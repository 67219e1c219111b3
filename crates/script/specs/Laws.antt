-- What holds of every reading of a script.
use Rattle.std.specs.Prelude.{◌≡◌, ℕ, ◌≤◌, List, length, Ok, Err, Result}
use Rattle.words.specs.Faults.{line_at}
use Rattle.script.specs.Scripts.{contents}
use Rattle.script.specs.Writing.{Values, Within, values_of, written}
use Rattle.words.specs.declared.fault.Fault.{Fault}
use Rattle.script.specs.declared.script.Script.{Script}

abbrev pub Gives : Values → Result Script Fault → Type 0
Gives v (Ok x) = values_of (contents x) ≡ v
Gives v (Err fault) = ⊥

-- a script written out from values within the carriers, of at most 16,384 bytes, reads back as those values
abbrev pub ReadsBack : List ℕ → Result Script Fault → Type 0
ReadsBack s r = (v : Values) → Within v → length s ≤ 16384 → s ≡ written v → Gives v r

-- a fault's place is a byte of the script or its end, and its line is 1 + the line ends before that
abbrev pub Points : List ℕ → Result Script Fault → Type 0
Points s (Ok x) = Unit {0}
Points s (Err fault) = (fault.place ≤ length s) × (fault.line ≡ line_at s fault.place)
