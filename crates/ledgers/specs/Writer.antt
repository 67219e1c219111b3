-- The write side of the bridge with one part under way at a time: what it drives in each of its states, and what an edge does to it.
use Rattle.std.specs.Prelude.{Bool, true, false, cond, not, ◌||◌, List, [], ◌∷◌, ℕ, zero, suc}
use Rattle.ledgers.specs.Pieces.{Pieces}
use Rattle.ledgers.specs.Joining.{Joining}
use Rattle.ledgers.specs.Lists.{just_if}
use Rattle.ledgers.specs.Wires.{Inputs}

-- a write part crosses on two channels, in either order: LAW and LW
pub data Side : Type 0 where
  law_side : Side
  lw_side : Side

-- of two things, one for LAW and one for LW, that of a channel
abbrev pub pick : {A : Type 0} → Side → A → A → A
pick law_side a d = a
pick lw_side a d = d

-- b is the burst at hand, n how many of its beats follow the beat at hand (in fetch: the beat to be taken next), m the sum of the
-- responses so far, p the part at hand, ps the further parts of its beat; a and d say that p has crossed on LAW and on LW
pub data Writer (K : Pieces) (J : Joining K) : Type 0 where
  -- no burst at hand
  idle : Writer K J
  -- waits for a data beat
  fetch : (b : K.Burst) (n : ℕ) (m : J.writes.Sum) → Writer K J
  -- sends a part on LAW and LW
  send : (b : K.Burst) (n : ℕ) (m : J.writes.Sum) (p : K.WritePart) (ps : List K.WritePart) (a d : Bool) → Writer K J
  -- waits for the response to a part on LB
  await : (b : K.Burst) (n : ℕ) (m : J.writes.Sum) (p : K.WritePart) (ps : List K.WritePart) → Writer K J
  -- waits for room for the answer
  close : (b : K.Burst) (m : J.writes.Sum) → Writer K J

module _ {K : Pieces} {J : Joining K} where
  -- LAWVALID or LWVALID
  abbrev pub valid_on : Side → Writer K J → Bool
  valid_on v idle = false
  valid_on v (fetch b n m) = false
  valid_on v (send b n m p ps a d) = not (pick v a d)
  valid_on v (await b n m p ps) = false
  valid_on v (close b m) = false

  -- the payload on LAW or LW: f of the part at hand, or z where VALID is low
  abbrev pub shown_on : {A : Type 0} → Side → A → (K.WritePart → A) → Writer K J → A
  shown_on v z f idle = z
  shown_on v z f (fetch b n m) = z
  shown_on v z f (send b n m p ps a d) = cond (pick v a d) z (f p)
  shown_on v z f (await b n m p ps) = z
  shown_on v z f (close b m) = z

  -- LBREADY
  abbrev pub lb_ready : Writer K J → Bool
  lb_ready idle = false
  lb_ready (fetch b n m) = false
  lb_ready (send b n m p ps a d) = false
  lb_ready (await b n m p ps) = true
  lb_ready (close b m) = false

  -- an edge takes the oldest burst that waits
  abbrev pub takes_burst : Writer K J → Bool
  takes_burst idle = true
  takes_burst (fetch b n m) = false
  takes_burst (send b n m p ps a d) = false
  takes_burst (await b n m p ps) = false
  takes_burst (close b m) = false

  -- an edge takes the oldest data beat that waits
  abbrev pub takes_beat : Writer K J → Bool
  takes_beat idle = false
  takes_beat (fetch b n m) = true
  takes_beat (send b n m p ps a d) = false
  takes_beat (await b n m p ps) = false
  takes_beat (close b m) = false

  -- how many bursts are at hand
  abbrev pub busy : Writer K J → ℕ
  busy idle = 0
  busy (fetch b n m) = 1
  busy (send b n m p ps a d) = 1
  busy (await b n m p ps) = 1
  busy (close b m) = 1

module _ (K : Pieces) (J : Joining K) where
  -- the answer that an edge gives, given that there is room for one
  abbrev pub closing : Writer K J → Bool → List K.Ans
  closing idle room = []
  closing (fetch b n m) room = []
  closing (send b n m p ps a d) room = []
  closing (await b n m p ps) room = []
  closing (close b m) room = just_if room (J.answer b m)

  -- a beat is done: fetch the next, or close
  abbrev pub next_beat : K.Burst → ℕ → J.writes.Sum → Writer K J
  next_beat b zero m = close b m
  next_beat b (suc n) m = fetch b n m

  -- go on with these parts of the beat at hand
  abbrev pub with_parts : K.Burst → ℕ → J.writes.Sum → List K.WritePart → Writer K J
  with_parts b n m [] = next_beat b n m
  with_parts b n m (p ∷ ps) = send b n m p ps false false

  -- a part has crossed on LAW, on LW, on both or on neither
  abbrev pub sent : K.Burst → ℕ → J.writes.Sum → K.WritePart → List K.WritePart → Bool → Bool → Writer K J
  sent b n m p ps true true = await b n m p ps
  sent b n m p ps true false = send b n m p ps true false
  sent b n m p ps false true = send b n m p ps false true
  sent b n m p ps false false = send b n m p ps false false

  -- begin with the oldest burst, if one waits
  abbrev pub begin : List K.Burst → Writer K J
  begin [] = idle
  begin (b ∷ bs) = fetch b (K.len b) J.writes.none

  -- cut the oldest data beat, if one waits
  abbrev pub take_beat : K.Burst → ℕ → J.writes.Sum → List K.Beat → Writer K J
  take_beat b n m [] = fetch b n m
  take_beat b n m (w ∷ ws) = with_parts b n m (K.cut b n w)

  -- an edge, given the bursts and beats that wait and whether there is room for an answer
  abbrev pub move : Writer K J → List K.Burst → List K.Beat → Bool → Inputs K → Writer K J
  move idle bs ws room x = begin bs
  move (fetch b n m) bs ws room x = take_beat b n m ws
  move (send b n m p ps a d) bs ws room x = sent b n m p ps (a || x.lawready) (d || x.lwready)
  move (await b n m p ps) bs ws room x =
      cond x.lbvalid (with_parts b n (J.writes.join m (J.writes.clean p x.lb)) ps) (await b n m p ps)
  move (close b m) bs ws room x = cond room idle (close b m)
