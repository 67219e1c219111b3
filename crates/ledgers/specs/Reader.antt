-- The read side of the bridge with one part under way at a time: what it drives in each of its states, and what an edge does to it.
use Rattle.std.specs.Prelude.{Bool, true, false, cond, List, [], ◌∷◌, ℕ, zero, suc}
use Rattle.ledgers.specs.Pieces.{Pieces}
use Rattle.ledgers.specs.Joining.{Joining}
use Rattle.ledgers.specs.Lists.{just_if}
use Rattle.ledgers.specs.Wires.{Inputs}
use Rattle.ledgers.specs.Due.{is_last}

-- b is the burst at hand, n how many of its beats follow the beat at hand, m the sum of the answers to parts of the beat so far, p the
-- part at hand, ps the further parts of the beat
pub data Reader (K : Pieces) (J : Joining K) : Type 0 where
  -- no burst at hand
  idle : Reader K J
  -- sends a part on LAR
  send : (b : K.Burst) (n : ℕ) (m : J.reads.Sum) (p : K.ReadPart) (ps : List K.ReadPart) → Reader K J
  -- waits for the answer to a part on LR
  await : (b : K.Burst) (n : ℕ) (m : J.reads.Sum) (p : K.ReadPart) (ps : List K.ReadPart) → Reader K J
  -- waits for room for the beat
  close : (b : K.Burst) (n : ℕ) (m : J.reads.Sum) → Reader K J

module _ {K : Pieces} {J : Joining K} where
  -- LARVALID
  abbrev pub lar_valid : Reader K J → Bool
  lar_valid idle = false
  lar_valid (send b n m p ps) = true
  lar_valid (await b n m p ps) = false
  lar_valid (close b n m) = false

  -- the payload on LAR
  abbrev pub lar_shown : Reader K J → K.At
  lar_shown idle = K.no_at
  lar_shown (send b n m p ps) = K.from p
  lar_shown (await b n m p ps) = K.no_at
  lar_shown (close b n m) = K.no_at

  -- LRREADY
  abbrev pub lr_ready : Reader K J → Bool
  lr_ready idle = false
  lr_ready (send b n m p ps) = false
  lr_ready (await b n m p ps) = true
  lr_ready (close b n m) = false

  -- an edge takes the oldest burst that waits
  abbrev pub takes_burst : Reader K J → Bool
  takes_burst idle = true
  takes_burst (send b n m p ps) = false
  takes_burst (await b n m p ps) = false
  takes_burst (close b n m) = false

  -- how many bursts are at hand
  abbrev pub busy : Reader K J → ℕ
  busy idle = 0
  busy (send b n m p ps) = 1
  busy (await b n m p ps) = 1
  busy (close b n m) = 1

module _ (K : Pieces) (J : Joining K) where
  -- the beat of a burst that n beats follow, of the sum over its parts
  abbrev pub beat : K.Burst → ℕ → J.reads.Sum → K.Got
  beat b n m = J.got b m (is_last n)

  -- the beat that an edge gives, given that there is room for one
  abbrev pub closing : Reader K J → Bool → List K.Got
  closing idle room = []
  closing (send b n m p ps) room = []
  closing (await b n m p ps) room = []
  closing (close b n m) room = just_if room (beat b n m)

  -- go on with these parts of the beat at hand
  abbrev pub with_parts : K.Burst → ℕ → J.reads.Sum → List K.ReadPart → Reader K J
  with_parts b n m [] = close b n m
  with_parts b n m (p ∷ ps) = send b n m p ps

  -- cut the beat of a burst that n beats follow
  abbrev pub start_beat : K.Burst → ℕ → Reader K J
  start_beat b n = with_parts b n J.reads.none (K.rcut b n)

  -- a beat is done that n beats follow: cut the next, if there is one
  abbrev pub next_beat : K.Burst → ℕ → Reader K J
  next_beat b zero = idle
  next_beat b (suc n) = start_beat b n

  -- begin with the oldest burst, if one waits
  abbrev pub begin : List K.Burst → Reader K J
  begin [] = idle
  begin (b ∷ bs) = start_beat b (K.len b)

  -- an edge, given the bursts that wait and whether there is room for a beat
  abbrev pub move : Reader K J → List K.Burst → Bool → Inputs K → Reader K J
  move idle bs room x = begin bs
  move (send b n m p ps) bs room x = cond x.larready (await b n m p ps) (send b n m p ps)
  move (await b n m p ps) bs room x =
      cond x.lrvalid (with_parts b n (J.reads.join m (J.reads.clean p x.lr)) ps) (await b n m p ps)
  move (close b n m) bs room x = cond room (next_beat b n) (close b n m)
