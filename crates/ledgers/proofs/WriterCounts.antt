-- Over an edge of the writer: how many parts are open, and how many bursts are at hand.
use mathlib.Core.Path.{◌≡◌, refl}
use mathlib.Core.Bool.{Bool, true, false, cond, not, ◌&&◌, ◌||◌}
use mathlib.Core.List.{List, [], ◌∷◌}
use Prim.Native.Nat.{ℕ, zero, suc, ◌+◌, ◌≤◌}
use native.Mathlib.Omega.{arith}
use lib.ListN.{length}
use Rattle.ledgers.specs.Pieces.{Pieces}
use Rattle.ledgers.specs.Joining.{Joining}
use Rattle.ledgers.specs.Lists.{one_if, just_if, less_if}
use Rattle.ledgers.specs.Wires.{Inputs}
use Rattle.ledgers.specs.Writer.{Side, pick, Writer, valid_on, lb_ready, takes_burst, closing, with_parts, sent, move, busy}
use Rattle.ledgers.specs.Writer.Side.{law_side, lw_side}
use Rattle.ledgers.specs.Writer.Writer.{idle, fetch, send, await, close}
use Rattle.ledgers.proofs.Tests.{none_of, one_at_most, one_more}
use Rattle.ledgers.proofs.WriterRest.{open_parts}
use Rattle.ledgers.proofs.WriterParts.{pick_or}

module _ (K : Pieces) (J : Joining K) where
  -- OPEN PARTS
  with_parts_opens : (v : Side) (b : K.Burst) (n : ℕ) (m : J.writes.Sum)
      (ps : List K.WritePart) → open_parts K J v (with_parts K J b n m ps) ≡ 0
  with_parts_opens v b zero m [] = refl
  with_parts_opens v b (suc n) m [] = refl
  with_parts_opens law_side b n m (p ∷ ps) = refl
  with_parts_opens lw_side b n m (p ∷ ps) = refl

  sent_is_open : (v : Side) (b : K.Burst) (n : ℕ) (m : J.writes.Sum) (p : K.WritePart) (ps : List K.WritePart) (a d : Bool) →
      open_parts K J v (sent K J b n m p ps a d) ≡ one_if (pick v a d)
  sent_is_open law_side b n m p ps true true = refl
  sent_is_open lw_side b n m p ps true true = refl
  sent_is_open v b n m p ps true false = refl
  sent_is_open v b n m p ps false true = refl
  sent_is_open v b n m p ps false false = refl

  send_opens : (v : Side) (b : K.Burst) (n : ℕ) (m : J.writes.Sum) (p : K.WritePart) (ps : List K.WritePart) (a d r t : Bool) →
      one_if (pick v a d) + one_if (not (pick v a d) && pick v r t) ≡ 0 + open_parts K J v (sent K J b n m p ps (a || r) (d || t))
  send_opens v b n m p ps a d r t = rw (sent_is_open, pick_or) (one_more (pick v a d) (pick v r t))

  await_opens : (v : Side) (b : K.Burst) (n : ℕ) (m m' : J.writes.Sum) (p : K.WritePart) (ps : List K.WritePart) (c : Bool) →
      1 ≡ one_if (c && true) + open_parts K J v (cond c (with_parts K J b n m' ps) (await b n m p ps))
  await_opens v b n m m' p ps true = rw with_parts_opens
  await_opens v b n m m' p ps false = refl

  close_opens : (v : Side) (b : K.Burst) (m : J.writes.Sum) (c : Bool) → open_parts K J v (cond c idle (close b m)) ≡ 0
  close_opens v b m true = refl
  close_opens v b m false = refl

  -- parts opened and parts answered
  pub open_after : (v : Side) (e : Writer K J) (q : List K.Burst) (d : List K.Beat) (r : Bool) (x : Inputs K) →
      open_parts K J v e + one_if (valid_on v e && pick v x.lawready x.lwready) ≡ one_if (x.lbvalid && lb_ready e) + open_parts K J v (move K J e q d r x)
  open_after v idle [] d r x = rw none_of
  open_after v idle (b ∷ q) d r x = rw none_of
  open_after v (fetch b n m) q [] r x = rw none_of
  open_after v (fetch b n m) q (w ∷ d) r x = rw (none_of, with_parts_opens)
  open_after v (send b n m p ps y s) q d r x = rw none_of (send_opens v b n m p ps y s x.lawready x.lwready)
  open_after v (await b n m p ps) q d r x = await_opens v b n m (J.writes.join m (J.writes.clean p x.lb)) p ps x.lbvalid
  open_after v (close b m) q d r x = rw (none_of, close_opens)

  -- a response crosses on LB only while a part is open
  pub answers_an_open_part : (v : Side) (e : Writer K J) (c : Bool) → one_if (c && lb_ready e) ≤ open_parts K J v e
  answers_an_open_part v idle c = rw none_of (omega arith)
  answers_an_open_part v (fetch b n m) c = rw none_of (omega arith)
  answers_an_open_part v (send b n m p ps y s) c = rw none_of (omega arith)
  answers_an_open_part v (await b n m p ps) c = one_at_most c
  answers_an_open_part v (close b m) c = rw none_of (omega arith)

  -- BURSTS AT HAND
  with_parts_busy : (b : K.Burst) (n : ℕ) (m : J.writes.Sum) (ps : List K.WritePart) → busy (with_parts K J b n m ps) ≡ 1
  with_parts_busy b zero m [] = refl
  with_parts_busy b (suc n) m [] = refl
  with_parts_busy b n m (p ∷ ps) = refl

  sent_busy : (b : K.Burst) (n : ℕ) (m : J.writes.Sum) (p : K.WritePart) (ps : List K.WritePart)
      (a d : Bool) → busy (sent K J b n m p ps a d) ≡ 1
  sent_busy b n m p ps true true = refl
  sent_busy b n m p ps true false = refl
  sent_busy b n m p ps false true = refl
  sent_busy b n m p ps false false = refl

  await_busy : (b : K.Burst) (n : ℕ) (m m' : J.writes.Sum) (p : K.WritePart) (ps : List K.WritePart) (c : Bool) →
      busy (cond c (with_parts K J b n m' ps) (await b n m p ps)) ≡ 1
  await_busy b n m m' p ps true = with_parts_busy b n m' ps
  await_busy b n m m' p ps false = refl

  close_busy : (b : K.Burst) (m : J.writes.Sum) (c : Bool) → 1 ≡ busy {K = K} {J = J}
      (cond c idle (close b m)) + length (just_if c (J.answer b m))
  close_busy b m true = refl
  close_busy b m false = refl

  -- bursts taken and bursts answered
  pub bursts_after : (e : Writer K J) (q : List K.Burst) (d : List K.Beat) (r : Bool) (x : Inputs K) →
      length q + busy e ≡ length (less_if (takes_burst e) q) + busy (move K J e q d r x) + length (closing K J e r)
  bursts_after idle [] d r x = refl
  bursts_after idle (b ∷ q) d r x = omega arith
  bursts_after (fetch b n m) q [] r x = omega arith
  bursts_after (fetch b n m) q (w ∷ d) r x = rw with_parts_busy (omega arith)
  bursts_after (send b n m p ps y s) q d r x = rw sent_busy (omega arith)
  bursts_after (await b n m p ps) q d r x = rw await_busy (omega arith)
  bursts_after (close b m) q d r x = omega (arith, close_busy b m r)
