-- What the writer has yet to do, read off its state: parts to cross on LAW or LW, answers to cross on B, responses to come on LB.
use mathlib.Core.Bool.{cond, not, ◌&&◌}
use mathlib.Core.List.{List, [], ◌∷◌, ◌++◌}
use Prim.Native.Nat.{ℕ, suc}
use lib.ListN.{length, drop}
use Rattle.ledgers.specs.Pieces.{Pieces}
use Rattle.ledgers.specs.Joining.{Joining, gather}
use Rattle.ledgers.specs.Lists.{one_if, just_if, covers}
use Rattle.ledgers.specs.Due.{parts, due_parts}
use Rattle.ledgers.specs.Writer.{Side, pick, Writer}
use Rattle.ledgers.specs.Writer.Writer.{idle, fetch, send, await, close}
use Rattle.ledgers.proofs.JoinedDue.{joined_answers}

module _ (K : Pieces) where
  -- the parts of n more beats of b, then those of the bursts bs
  abbrev pub parts_then : K.Burst → ℕ → List K.Burst → List K.Beat → List K.WritePart
  parts_then b n bs ws = parts K b n ws ++ due_parts K bs (drop n ws)

module _ (K : Pieces) (J : Joining K) where
  -- the parts yet to cross on one channel, given the bursts and beats that wait or are to come
  abbrev pub rest_parts : Side → Writer K J → List K.Burst → List K.Beat → List K.WritePart
  rest_parts v idle bs ws = due_parts K bs ws
  rest_parts v (fetch b n m) bs ws = parts_then K b (suc n) bs ws
  rest_parts v (send b n m p ps a d) bs ws = just_if (not (pick v a d)) p ++ (ps ++ parts_then K b n bs ws)
  rest_parts v (await b n m p ps) bs ws = ps ++ parts_then K b n bs ws
  rest_parts v (close b m) bs ws = due_parts K bs ws

  -- the answer to b, with sum m so far and parts ps and n beats to go, then those to the bursts bs, given the responses to come
  abbrev pub answers_then : K.Burst → J.writes.Sum → ℕ → List K.WritePart → List K.Burst → List K.Beat → List K.WriteCode → List K.Ans
  answers_then b m n ps bs ws cs =
      let all = ps ++ parts K b n ws in
      let k = length all in
      let sum = J.writes.join m (gather J.writes all cs) in
      cond (covers n ws && covers k cs) (J.answer b sum ∷ joined_answers K J bs (drop n ws) (drop k cs)) []

  -- the answers yet to be given
  abbrev pub rest_answers : Writer K J → List K.Burst → List K.Beat → List K.WriteCode → List K.Ans
  rest_answers idle bs ws cs = joined_answers K J bs ws cs
  rest_answers (fetch b n m) bs ws cs = answers_then b m (suc n) [] bs ws cs
  rest_answers (send b n m p ps a d) bs ws cs = answers_then b m n (p ∷ ps) bs ws cs
  rest_answers (await b n m p ps) bs ws cs = answers_then b m n (p ∷ ps) bs ws cs
  rest_answers (close b m) bs ws cs = J.answer b m ∷ joined_answers K J bs ws cs

  -- how many parts have crossed on one channel and are not answered
  abbrev pub open_parts : Side → Writer K J → ℕ
  open_parts v idle = 0
  open_parts v (fetch b n m) = 0
  open_parts v (send b n m p ps a d) = one_if (pick v a d)
  open_parts v (await b n m p ps) = 1
  open_parts v (close b m) = 0
