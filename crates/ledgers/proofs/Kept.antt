-- Where the promise stands, each call keeps it.
use mathlib.Core.Path.{◌≡◌, ap, ◌∙◌}
use mathlib.Core.List.{◌∷◌}
use Rattle.ledgers.specs.Pieces.{Pieces}
use Rattle.ledgers.specs.Wires.{Machine, Call, after}
use Rattle.ledgers.specs.Promise.{PromiseStands, Kept}

pub kept : (K : Pieces) (M : Machine K) → PromiseStands K M → (s t : M.State) (c : Call K) → t ≡ after K M s c → Kept K M s c t
kept K M stands s t c e run h = (e ∙ ap (λ u. after K M u c) h, stands (c ∷ run))
