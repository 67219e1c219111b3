-- Over an edge of the reader: how many parts are open, and how many bursts are at hand.
use mathlib.Core.Path.{◌≡◌, refl}
use mathlib.Core.Bool.{Bool, true, false, cond, ◌&&◌}
use mathlib.Core.List.{List, [], ◌∷◌, ◌++◌}
use Prim.Native.Nat.{ℕ, zero, suc, ◌+◌, ◌≤◌}
use native.Mathlib.Omega.{arith}
use lib.ListN.{length}
use Rattle.ledgers.specs.Pieces.{Pieces}
use Rattle.ledgers.specs.Joining.{Joining}
use Rattle.ledgers.specs.Lawful.{Lawful}
use Rattle.ledgers.specs.Lists.{one_if, just_if, less_if}
use Rattle.ledgers.specs.Wires.{Inputs}
use Rattle.ledgers.specs.Due.{lasts}
use Rattle.ledgers.specs.Reader.{Reader, lar_valid, lr_ready, takes_burst, beat, closing, with_parts, next_beat, move, busy}
use Rattle.ledgers.specs.Reader.Reader.{idle, send, await, close}
use Rattle.ledgers.proofs.Tests.{none_of, one_at_most}
use Rattle.ledgers.proofs.ReaderRest.{open_parts}

pub lasts_append : (K : Pieces) (a c : List K.Got) → lasts K (a ++ c) ≡ lasts K a + lasts K c
lasts_append K [] c = omega arith
lasts_append K (r ∷ a) c = omega (arith, lasts_append K a c)

module _ (K : Pieces) (J : Joining K) where
  -- OPEN PARTS
  with_parts_opens : (b : K.Burst) (n : ℕ) (m : J.reads.Sum) (ps : List K.ReadPart) → open_parts K J (with_parts K J b n m ps) ≡ 0
  with_parts_opens b n m [] = refl
  with_parts_opens b n m (p ∷ ps) = refl

  send_opens : (b : K.Burst) (n : ℕ) (m : J.reads.Sum) (p : K.ReadPart) (ps : List K.ReadPart) (v : Bool) →
      0 + one_if v ≡ 0 + open_parts K J (cond v (await b n m p ps) (send b n m p ps))
  send_opens b n m p ps true = refl
  send_opens b n m p ps false = refl

  await_opens : (b : K.Burst) (n : ℕ) (m m' : J.reads.Sum) (p : K.ReadPart) (ps : List K.ReadPart) (v : Bool) →
      1 ≡ one_if (v && true) + open_parts K J (cond v (with_parts K J b n m' ps) (await b n m p ps))
  await_opens b n m m' p ps true = rw with_parts_opens
  await_opens b n m m' p ps false = refl

  close_opens : (b : K.Burst) (n : ℕ) (m : J.reads.Sum) (r : Bool) → open_parts K J (cond r (next_beat K J b n) (close b n m)) ≡ 0
  close_opens b zero m true = refl
  close_opens b (suc n) m true = with_parts_opens b n J.reads.none (K.rcut b n)
  close_opens b n m false = refl

  -- parts opened and parts answered
  pub open_after : (e : Reader K J) (q : List K.Burst) (r : Bool) (x : Inputs K) →
      open_parts K J e + one_if (lar_valid e && x.larready) ≡ one_if (x.lrvalid && lr_ready e) + open_parts K J (move K J e q r x)
  open_after idle [] r x = rw none_of
  open_after idle (b ∷ q) r x = rw (none_of, with_parts_opens)
  open_after (send b n m p ps) q r x = rw none_of (send_opens b n m p ps x.larready)
  open_after (await b n m p ps) q r x = await_opens b n m (J.reads.join m (J.reads.clean p x.lr)) p ps x.lrvalid
  open_after (close b n m) q r x = rw (none_of, close_opens)

  -- an answer crosses on LR only while a part is open
  pub answers_an_open_part : (e : Reader K J) (c : Bool) → one_if (c && lr_ready e) ≤ open_parts K J e
  answers_an_open_part idle c = rw none_of (omega arith)
  answers_an_open_part (send b n m p ps) c = rw none_of (omega arith)
  answers_an_open_part (await b n m p ps) c = one_at_most c
  answers_an_open_part (close b n m) c = rw none_of (omega arith)

  -- BURSTS AT HAND
  with_parts_busy : (b : K.Burst) (n : ℕ) (m : J.reads.Sum) (ps : List K.ReadPart) → busy (with_parts K J b n m ps) ≡ 1
  with_parts_busy b n m [] = refl
  with_parts_busy b n m (p ∷ ps) = refl

  send_busy : (b : K.Burst) (n : ℕ) (m : J.reads.Sum) (p : K.ReadPart) (ps : List K.ReadPart) (v : Bool) →
      busy {K = K} {J = J} (cond v (await b n m p ps) (send b n m p ps)) ≡ 1
  send_busy b n m p ps true = refl
  send_busy b n m p ps false = refl

  await_busy : (b : K.Burst) (n : ℕ) (m m' : J.reads.Sum) (p : K.ReadPart) (ps : List K.ReadPart) (v : Bool) →
      busy (cond v (with_parts K J b n m' ps) (await b n m p ps)) ≡ 1
  await_busy b n m m' p ps true = with_parts_busy b n m' ps
  await_busy b n m m' p ps false = refl

  module _ (L : Lawful K J) where
    close_busy : (b : K.Burst) (n : ℕ) (m : J.reads.Sum) (r : Bool) →
        1 ≡ busy (cond r (next_beat K J b n) (close b n m)) + lasts K (just_if r (beat K J b n m))
    close_busy b zero m true = rw L.last
    close_busy b (suc n) m true = rw (with_parts_busy, L.last)
    close_busy b n m false = refl

    -- bursts taken and bursts whose last beat is given
    pub bursts_after : (e : Reader K J) (q : List K.Burst) (r : Bool) (x : Inputs K) →
        length q + busy e ≡ length (less_if (takes_burst e) q) + busy (move K J e q r x) + lasts K (closing K J e r)
    bursts_after idle [] r x = refl
    bursts_after idle (b ∷ q) r x = rw with_parts_busy (omega arith)
    bursts_after (send b n m p ps) q r x = rw send_busy (omega arith)
    bursts_after (await b n m p ps) q r x = rw await_busy (omega arith)
    bursts_after (close b n m) q r x = omega (arith, close_busy b n m r)
