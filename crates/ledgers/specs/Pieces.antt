-- The pieces that the promise is stated with: what bursts, beats, parts, responses and answers are, and how a burst is cut into parts.
-- A part is one transfer on the AXI4-Lite side: a write part crosses on LAW and LW and is answered on LB, a read part crosses on LAR and
-- is answered on LR.
use Rattle.std.specs.Prelude.{Bool, List, ℕ, suc}

pub record Pieces : Type 1 where
  -- BURSTS: as AW and AR carry them, and as the ledgers list them, with the verdict on each, accepted or refused
  pub Raw : Type 0
  pub Burst : Type 0
  pub judge : Raw → Burst
  -- LEN: how many beats of the burst follow its first
  pub len : Burst → ℕ
  -- WRITES: a data beat, as W carries it
  pub Beat : Type 0
  -- a write part, and its payloads on LAW and on LW
  pub WritePart : Type 0
  pub At : Type 0
  pub Lane : Type 0
  pub at : WritePart → At
  pub lane : WritePart → Lane
  -- the payloads shown while VALID is low: on LAW and LAR, and on LW
  pub no_at : At
  pub no_lane : Lane
  -- the parts in order of a beat of a burst, given how many beats of the burst follow this one; a refused burst has none
  pub cut : Burst → ℕ → Beat → List WritePart
  -- the response to a write part, as LB carries it
  pub WriteCode : Type 0
  -- the answer to a write burst, as B carries it: ID and response; and the payload shown while BVALID is low
  pub Ans : Type 0
  pub no_ans : Ans
  -- the answer due for a burst with these parts, answered in order by these responses: one to a part, and those beyond the parts are not
  -- looked at
  pub due_answer : Burst → List WritePart → List WriteCode → Ans
  -- READS: a read part, and its payload on LAR
  pub ReadPart : Type 0
  pub from : ReadPart → At
  -- the parts in order of a beat of a burst, given how many beats of the burst follow this one; a refused burst has none
  pub rcut : Burst → ℕ → List ReadPart
  -- the answer to a read part, as LR carries it: data and response
  pub ReadCode : Type 0
  -- a read beat, as R carries it: ID, data, response and LAST; and the payload shown while RVALID is low
  pub Got : Type 0
  pub no_got : Got
  -- LAST of a read beat
  pub last : Got → Bool
  -- the read beat due for a beat of a burst with these parts, answered in order by these, and whether it is the burst's last: one answer to
  -- a part, and those beyond the parts are not looked at
  pub due_got : Burst → List ReadPart → List ReadCode → Bool → Got
  -- REFUSED EDGES: a payload has a field too large for its wires
  pub bad_burst : Raw → Bool
  pub bad_beat : Beat → Bool
  pub bad_wcode : WriteCode → Bool
  pub bad_rcode : ReadCode → Bool

-- the number of beats of a burst: LEN + 1
abbrev pub beats_of : (K : Pieces) → K.Burst → ℕ
beats_of K b = suc (K.len b)
