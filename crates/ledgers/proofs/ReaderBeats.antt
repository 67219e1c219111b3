-- An edge takes from the beats that the reader has yet to give just the one that it gives.
use mathlib.Core.Path.{◌≡◌, refl, ap, ◌∙◌}
use mathlib.Core.Bool.{Bool, true, false, cond, ◌&&◌}
use mathlib.Core.List.{List, [], ◌∷◌, ◌++◌}
use Prim.Native.Nat.{ℕ, zero, suc}
use Rattle.ledgers.specs.Pieces.{Pieces}
use Rattle.ledgers.specs.Joining.{Joining}
use Rattle.ledgers.specs.Lawful.{Lawful}
use Rattle.ledgers.specs.Lists.{just_if, less_if}
use Rattle.ledgers.specs.Wires.{Inputs}
use Rattle.ledgers.specs.Due.{Place, places, all_places}
use Rattle.ledgers.specs.Reader.{Reader, lr_ready, takes_burst, beat, closing, with_parts, start_beat, next_beat, move}
use Rattle.ledgers.specs.Reader.Reader.{idle, send, await, close}
use Rattle.ledgers.proofs.Tests.{nothing_from}
use Rattle.ledgers.proofs.JoinedDue.{joined_beats}
use Rattle.ledgers.proofs.ReaderRest.{later, beat_then, rest_beats}

module _ (K : Pieces) (J : Joining K) (L : Lawful K J) where
  with_parts_beats : (b : K.Burst) (n : ℕ) (m : J.reads.Sum) (ps : List K.ReadPart) (bs : List K.Burst)
      (cs : List K.ReadCode) →
      beat_then K J b n m ps (later K b n bs) cs ≡ rest_beats K J (with_parts K J b n m ps) bs cs
  with_parts_beats b n m [] bs cs = simp L.reads.right
  with_parts_beats b n m (p ∷ ps) bs cs = refl

  first_sum : (b : K.Burst) (n : ℕ) (bs : List K.Burst) (cs : List K.ReadCode) →
      joined_beats K J (places K b n ++ all_places K bs) cs ≡ beat_then K J b n J.reads.none (K.rcut b n) (later K b n bs) cs
  first_sum b zero bs cs = simp L.reads.left
  first_sum b (suc n) bs cs = simp L.reads.left

  start_beats : (b : K.Burst) (n : ℕ) (bs : List K.Burst) (cs : List K.ReadCode) →
      joined_beats K J (places K b n ++ all_places K bs) cs ≡ rest_beats K J (start_beat K J b n) bs cs
  start_beats b n bs cs = first_sum b n bs cs ∙ with_parts_beats b n J.reads.none (K.rcut b n) bs cs

  join_beats : (b : K.Burst) (n : ℕ) (m : J.reads.Sum) (p : K.ReadPart) (ps : List K.ReadPart) (ts : List (Place K))
      (c : K.ReadCode) (cs : List K.ReadCode) →
      beat_then K J b n m (p ∷ ps) ts (c ∷ cs) ≡ beat_then K J b n (J.reads.join m (J.reads.clean p c)) ps ts cs
  join_beats b n m p ps ts c cs = simp L.reads.assoc

  send_beats : (b : K.Burst) (n : ℕ) (m : J.reads.Sum) (p : K.ReadPart) (ps : List K.ReadPart) (bs : List K.Burst)
      (cs : List K.ReadCode) (v : Bool) →
      beat_then K J b n m (p ∷ ps) (later K b n bs) cs ≡ rest_beats K J (cond v (await b n m p ps) (send b n m p ps)) bs cs
  send_beats b n m p ps bs cs true = refl
  send_beats b n m p ps bs cs false = refl

  await_beats : (b : K.Burst) (n : ℕ) (m : J.reads.Sum) (p : K.ReadPart) (ps : List K.ReadPart) (bs : List K.Burst)
      (c : K.ReadCode) (cs : List K.ReadCode) (v : Bool) →
      beat_then K J b n m (p ∷ ps) (later K b n bs) (just_if (v && true) c ++ cs) ≡
      rest_beats K J (cond v (with_parts K J b n (J.reads.join m (J.reads.clean p c)) ps) (await b n m p ps)) bs cs
  await_beats b n m p ps bs c cs true =
      join_beats b n m p ps (later K b n bs) c cs ∙ with_parts_beats b n (J.reads.join m (J.reads.clean p c)) ps bs cs
  await_beats b n m p ps bs c cs false = refl

  close_beats : (b : K.Burst) (n : ℕ) (m : J.reads.Sum) (bs : List K.Burst) (cs : List K.ReadCode) (r : Bool) →
      rest_beats K J (close b n m) bs cs ≡ just_if r (beat K J b n m) ++ rest_beats K J (cond r (next_beat K J b n) (close b n m)) bs cs
  close_beats b zero m bs cs true = refl
  close_beats b (suc n) m bs cs true = ap (λ u. beat K J b (suc n) m ∷ u) (start_beats b n bs cs)
  close_beats b n m bs cs false = refl

  -- q waits, bs and cs are to come
  pub beats_given : (e : Reader K J) (q : List K.Burst) (r : Bool) (x : Inputs K) (bs : List K.Burst) (cs : List K.ReadCode) →
      rest_beats K J e (q ++ bs) (just_if (x.lrvalid && lr_ready e) x.lr ++ cs) ≡
      closing K J e r ++ rest_beats K J (move K J e q r x) (less_if (takes_burst e) q ++ bs) cs
  beats_given idle [] r x bs cs = simp nothing_from
  beats_given idle (b ∷ q) r x bs cs = rw (nothing_from x.lrvalid x.lr cs) (start_beats b (K.len b) (q ++ bs) cs)
  beats_given (send b n m p ps) q r x bs cs = rw (nothing_from x.lrvalid x.lr cs) (send_beats b n m p ps (q ++ bs) cs x.larready)
  beats_given (await b n m p ps) q r x bs cs = await_beats b n m p ps (q ++ bs) x.lr cs x.lrvalid
  beats_given (close b n m) q r x bs cs = rw (nothing_from x.lrvalid x.lr cs) (close_beats b n m (q ++ bs) cs r)
