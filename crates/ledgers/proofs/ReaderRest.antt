-- What the reader has yet to do, read off its state: parts to cross on LAR, beats to cross on R, answers to come on LR.
use mathlib.Core.Bool.{cond}
use mathlib.Core.List.{List, [], ◌∷◌, ◌++◌}
use Prim.Native.Nat.{ℕ, zero, suc}
use lib.ListN.{length, drop}
use Rattle.ledgers.specs.Pieces.{Pieces}
use Rattle.ledgers.specs.Joining.{Joining, gather}
use Rattle.ledgers.specs.Lists.{covers}
use Rattle.ledgers.specs.Due.{Place, places, all_places, due_rparts}
use Rattle.ledgers.specs.Reader.{Reader, beat}
use Rattle.ledgers.specs.Reader.Reader.{idle, send, await, close}
use Rattle.ledgers.proofs.JoinedDue.{joined_beats}

module _ (K : Pieces) where
  -- n more beats of b, then those of the bursts bs
  abbrev pub later : K.Burst → ℕ → List K.Burst → List (Place K)
  later b zero bs = all_places K bs
  later b (suc n) bs = places K b n ++ all_places K bs

module _ (K : Pieces) (J : Joining K) where
  -- the parts yet to cross, given the bursts that wait or are to come
  abbrev pub rest_rparts : Reader K J → List K.Burst → List K.ReadPart
  rest_rparts idle bs = due_rparts K (all_places K bs)
  rest_rparts (send b n m p ps) bs = p ∷ (ps ++ due_rparts K (later K b n bs))
  rest_rparts (await b n m p ps) bs = ps ++ due_rparts K (later K b n bs)
  rest_rparts (close b n m) bs = due_rparts K (later K b n bs)

  -- the beat at hand, with sum m so far and parts ps to be answered, then the beats ts, given the answers to come
  abbrev pub beat_then : K.Burst → ℕ → J.reads.Sum → List K.ReadPart → List (Place K) → List K.ReadCode → List K.Got
  beat_then b n m ps ts cs =
      let k = length ps in
      cond (covers k cs) (beat K J b n (J.reads.join m (gather J.reads ps cs)) ∷ joined_beats K J ts (drop k cs)) []

  -- the beats yet to be given
  abbrev pub rest_beats : Reader K J → List K.Burst → List K.ReadCode → List K.Got
  rest_beats idle bs cs = joined_beats K J (all_places K bs) cs
  rest_beats (send b n m p ps) bs cs = beat_then b n m (p ∷ ps) (later K b n bs) cs
  rest_beats (await b n m p ps) bs cs = beat_then b n m (p ∷ ps) (later K b n bs) cs
  rest_beats (close b n m) bs cs = beat K J b n m ∷ joined_beats K J (later K b n bs) cs

  -- how many parts have crossed and are not answered
  abbrev pub open_parts : Reader K J → ℕ
  open_parts idle = 0
  open_parts (send b n m p ps) = 0
  open_parts (await b n m p ps) = 1
  open_parts (close b n m) = 0
