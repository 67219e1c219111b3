-- What comes of reading at a place: a value and the place after it, or a fault.
use Rattle.std.specs.Prelude.{◌≡◌, ℕ, List, Ok, Err, Result}
use Rattle.words.specs.Cursors.{text}
use Rattle.words.specs.declared.cursor.Cursor.{Cursor}
use Rattle.words.specs.declared.fault.Fault.{Fault}

pub data Read (X : Type 0) : Type 0 where
  got : X → ℕ → Read X
  stop : Fault → Read X

-- the first fault ends the reading
abbrev pub then : {X Y : Type 0} → Read X → (X → ℕ → Read Y) → Read Y
then (got x after) next = next x after
then (stop fault) next = stop fault

-- what a call returns, seen as what is read, with the cursor at a place after it
abbrev pub ToldAs : {X Y : Type 0} → (X → Y) → Read Y → ℕ → Result X Fault → Type 0
ToldAs seen reading after (Ok x) = reading ≡ got (seen x) after
ToldAs seen reading after (Err fault) = reading ≡ stop fault

abbrev pub Told : {X : Type 0} → Read X → ℕ → Result X Fault → Type 0
Told reading after r = ToldAs (λ x. x) reading after r

-- a call that reads at a cursor: the script stays, and the call tells what is read there, with the cursor behind it
pub record ReadsAs {X Y : Type 0} (seen : X → Y) (reading : List ℕ → ℕ → Read Y) (before after : Cursor) (r : Result X Fault) : Type 0 where
  pub same : text after ≡ text before
  pub read : ToldAs seen (reading (text before) before.at) after.at r

abbrev pub Reads : {X : Type 0} → (List ℕ → ℕ → Read X) → Cursor → Cursor → Result X Fault → Type 0
Reads reading before after r = ReadsAs (λ x. x) reading before after r
