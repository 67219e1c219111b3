-- The ledgers AW and AR hold only bursts as judged.
use mathlib.Core.Bool.{Bool, true, false}
use mathlib.Core.List.{List, [], ◌∷◌, ◌++◌}
use Rattle.ledgers.specs.Pieces.{Pieces}
use Rattle.ledgers.specs.Lists.{just_if}
use Rattle.ledgers.specs.Wires.{Machine, Call}
use Rattle.ledgers.specs.Ledgers.{ledgers}
use Rattle.ledgers.proofs.Runs.{after_every_run}

-- bursts that are each the verdict on some burst that AW or AR carried
pub data Judged (K : Pieces) : List K.Burst → Type 0 where
  none : Judged K []
  more : (x : K.Raw) {bs : List K.Burst} → Judged K bs → Judged K (K.judge x ∷ bs)

module _ (K : Pieces) where
  and_one : {bs : List K.Burst} → Judged K bs → (c : Bool) (x : K.Raw) → Judged K (bs ++ just_if c (K.judge x))
  and_one none true x = more x none
  and_one none false x = none
  and_one (more y js) c x = more y (and_one js c x)

  pub judged : (M : Machine K) (run : List (Call K)) → Judged K (ledgers K M run).AW × Judged K (ledgers K M run).AR
  judged M = after_every_run K M (λ s l. Judged K l.AW × Judged K l.AR) (none, none)
      (λ s l x j. (and_one j.0 _ x.aw, and_one j.1 _ x.ar))
