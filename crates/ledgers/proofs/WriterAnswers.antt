-- An edge takes from the answers that the writer has yet to give just the one that it gives.
use mathlib.Core.Path.{◌≡◌, refl, ◌∙◌}
use mathlib.Core.Bool.{Bool, true, false, cond, ◌&&◌, ◌||◌}
use mathlib.Core.List.{List, [], ◌∷◌, ◌++◌}
use Prim.Native.Nat.{ℕ, zero, suc}
use Rattle.ledgers.specs.Pieces.{Pieces, beats_of}
use Rattle.ledgers.specs.Joining.{Joining}
use Rattle.ledgers.specs.Lawful.{Lawful}
use Rattle.ledgers.specs.Lists.{just_if, less_if}
use Rattle.ledgers.specs.Wires.{Inputs}
use Rattle.ledgers.specs.Writer.{Writer, lb_ready, takes_burst, takes_beat, closing, with_parts, sent, move}
use Rattle.ledgers.specs.Writer.Writer.{idle, fetch, send, await, close}
use Rattle.ledgers.proofs.Tests.{nothing_from}
use Rattle.ledgers.proofs.JoinedDue.{joined_answers}
use Rattle.ledgers.proofs.WriterRest.{answers_then, rest_answers}

module _ (K : Pieces) (J : Joining K) (L : Lawful K J) where
  begin_answers : (b : K.Burst) (bs : List K.Burst) (ws : List K.Beat) (cs : List K.WriteCode) →
      joined_answers K J (b ∷ bs) ws cs ≡ answers_then K J b J.writes.none (beats_of K b) [] bs ws cs
  begin_answers b bs ws cs = simp L.writes.left

  with_parts_answers : (b : K.Burst) (n : ℕ) (m : J.writes.Sum) (ps : List K.WritePart) (bs : List K.Burst)
      (ws : List K.Beat) (cs : List K.WriteCode) →
      answers_then K J b m n ps bs ws cs ≡ rest_answers K J (with_parts K J b n m ps) bs ws cs
  with_parts_answers b zero m [] bs ws cs = simp L.writes.right
  with_parts_answers b (suc n) m [] bs ws cs = refl
  with_parts_answers b n m (p ∷ ps) bs ws cs = refl

  join_answers : (b : K.Burst) (n : ℕ) (m : J.writes.Sum) (p : K.WritePart) (ps : List K.WritePart) (bs : List K.Burst)
      (ws : List K.Beat) (c : K.WriteCode) (cs : List K.WriteCode) →
      answers_then K J b m n (p ∷ ps) bs ws (c ∷ cs) ≡ answers_then K J b (J.writes.join m (J.writes.clean p c)) n ps bs ws cs
  join_answers b n m p ps bs ws c cs = simp L.writes.assoc

  sent_answers : (b : K.Burst) (n : ℕ) (m : J.writes.Sum) (p : K.WritePart) (ps : List K.WritePart) (bs : List K.Burst)
      (ws : List K.Beat) (cs : List K.WriteCode) (a d : Bool) →
      answers_then K J b m n (p ∷ ps) bs ws cs ≡ rest_answers K J (sent K J b n m p ps a d) bs ws cs
  sent_answers b n m p ps bs ws cs true true = refl
  sent_answers b n m p ps bs ws cs true false = refl
  sent_answers b n m p ps bs ws cs false true = refl
  sent_answers b n m p ps bs ws cs false false = refl

  await_answers : (b : K.Burst) (n : ℕ) (m : J.writes.Sum) (p : K.WritePart) (ps : List K.WritePart) (bs : List K.Burst)
      (ws : List K.Beat) (c : K.WriteCode) (cs : List K.WriteCode) (v : Bool) →
      answers_then K J b m n (p ∷ ps) bs ws (just_if (v && true) c ++ cs) ≡
      rest_answers K J (cond v (with_parts K J b n (J.writes.join m (J.writes.clean p c)) ps) (await b n m p ps)) bs ws cs
  await_answers b n m p ps bs ws c cs true =
      join_answers b n m p ps bs ws c cs ∙ with_parts_answers b n (J.writes.join m (J.writes.clean p c)) ps bs ws cs
  await_answers b n m p ps bs ws c cs false = refl

  close_answers : (b : K.Burst) (m : J.writes.Sum) (bs : List K.Burst) (ws : List K.Beat) (cs : List K.WriteCode) (r : Bool) →
      J.answer b m ∷ joined_answers K J bs ws cs ≡ just_if r (J.answer b m) ++ rest_answers K J (cond r idle (close b m)) bs ws cs
  close_answers b m bs ws cs true = refl
  close_answers b m bs ws cs false = refl

  -- q and d wait, bs, ws and cs are to come
  pub answers_given : (e : Writer K J) (q : List K.Burst) (d : List K.Beat) (r : Bool) (x : Inputs K) (bs : List K.Burst)
      (ws : List K.Beat) (cs : List K.WriteCode) →
      rest_answers K J e (q ++ bs) (d ++ ws) (just_if (x.lbvalid && lb_ready e) x.lb ++ cs) ≡
      closing K J e r ++ rest_answers K J (move K J e q d r x) (less_if (takes_burst e) q ++ bs) (less_if (takes_beat e) d ++ ws) cs
  answers_given idle [] d r x bs ws cs = simp nothing_from
  answers_given idle (b ∷ q) d r x bs ws cs = rw (nothing_from x.lbvalid x.lb cs) (begin_answers b (q ++ bs) (d ++ ws) cs)
  answers_given (fetch b n m) q [] r x bs ws cs = simp nothing_from
  answers_given (fetch b n m) q (w ∷ d) r x bs ws cs =
      rw (nothing_from x.lbvalid x.lb cs) (with_parts_answers b n m (K.cut b n w) (q ++ bs) (d ++ ws) cs)
  answers_given (send b n m p ps y s) q d r x bs ws cs =
      rw (nothing_from x.lbvalid x.lb cs) (sent_answers b n m p ps (q ++ bs) (d ++ ws) cs (y || x.lawready) (s || x.lwready))
  answers_given (await b n m p ps) q d r x bs ws cs = await_answers b n m p ps (q ++ bs) (d ++ ws) x.lb cs x.lbvalid
  answers_given (close b m) q d r x bs ws cs = rw (nothing_from x.lbvalid x.lb cs) (close_answers b m (q ++ bs) (d ++ ws) cs r)
