-- LARVALID that is high and does not cross stays high, with its payload.
use mathlib.Core.Path.{◌≡◌, refl, sym}
use mathlib.Core.Bool.{Bool, true, false, cond}
use mathlib.Core.List.{List}
use Prim.Native.Nat.{ℕ}
use Rattle.ledgers.specs.Pieces.{Pieces}
use Rattle.ledgers.specs.Joining.{Joining}
use Rattle.ledgers.specs.Wires.{Inputs}
use Rattle.ledgers.specs.Reader.{Reader, lar_valid, lar_shown, move}
use Rattle.ledgers.specs.Reader.Reader.{idle, send, await, close}
use Rattle.ledgers.proofs.Tests.{never}

module _ (K : Pieces) (J : Joining K) where
  -- LAR shows u under a VALID that is high
  abbrev Shows : Reader K J → K.At → Type 0
  Shows e u = (lar_valid e ≡ true) × (lar_shown e ≡ u)

  send_stays : (b : K.Burst) (n : ℕ) (m : J.reads.Sum) (p : K.ReadPart) (ps : List K.ReadPart) (v : Bool) → v ≡ false →
      Shows (cond v (await b n m p ps) (send b n m p ps)) (K.from p)
  send_stays b n m p ps true h = never (sym h)
  send_stays b n m p ps false h = (refl, refl)

  pub rpart_stays : (e : Reader K J) (q : List K.Burst) (r : Bool) (x : Inputs K) → lar_valid e ≡ true → x.larready ≡ false →
      Shows (move K J e q r x) (lar_shown e)
  rpart_stays idle q r x h k = never h
  rpart_stays (send b n m p ps) q r x h k = send_stays b n m p ps x.larready k
  rpart_stays (await b n m p ps) q r x h k = never h
  rpart_stays (close b n m) q r x h k = never h
