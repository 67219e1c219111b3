-- Pieces and joining whose bursts, beats, parts, responses and answers are all numbers, and the theorem for all of them.
use Rattle.std.specs.Prelude.{Bool, List, ℕ}
use Rattle.ledgers.specs.Pieces.{Pieces}
use Rattle.ledgers.specs.Joining.{Summing, Joining}
use Rattle.ledgers.specs.Lawful.{Lawful}
use Rattle.ledgers.specs.Promise.{PromiseStands}
use Rattle.ledgers.specs.OneByOne.{Slots, one_by_one}

-- how responses are summed, with numbers for parts, responses and sums
pub record NumberedSums : Type 0 where
  pub none : ℕ
  pub clean : ℕ → ℕ → ℕ
  pub join : ℕ → ℕ → ℕ

-- the functions of pieces and of joining, with numbers for all that they take and give
pub record Numbered : Type 0 where
  pub judge : ℕ → ℕ
  pub len : ℕ → ℕ
  pub at : ℕ → ℕ
  pub lane : ℕ → ℕ
  pub no_at : ℕ
  pub no_lane : ℕ
  pub cut : ℕ → ℕ → ℕ → List ℕ
  pub no_ans : ℕ
  pub due_answer : ℕ → List ℕ → List ℕ → ℕ
  pub from : ℕ → ℕ
  pub rcut : ℕ → ℕ → List ℕ
  pub no_got : ℕ
  pub last : ℕ → Bool
  pub due_got : ℕ → List ℕ → List ℕ → Bool → ℕ
  pub bad_burst : ℕ → Bool
  pub bad_beat : ℕ → Bool
  pub bad_wcode : ℕ → Bool
  pub bad_rcode : ℕ → Bool
  pub writes : NumberedSums
  pub answer : ℕ → ℕ → ℕ
  pub reads : NumberedSums
  pub got : ℕ → ℕ → Bool → ℕ

-- the pieces with these functions
abbrev pub pieces_of : Numbered → Pieces
pieces_of q = record {
  Raw = ℕ;
  Burst = ℕ;
  judge = q.judge;
  len = q.len;
  Beat = ℕ;
  WritePart = ℕ;
  At = ℕ;
  Lane = ℕ;
  at = q.at;
  lane = q.lane;
  no_at = q.no_at;
  no_lane = q.no_lane;
  cut = q.cut;
  WriteCode = ℕ;
  Ans = ℕ;
  no_ans = q.no_ans;
  due_answer = q.due_answer;
  ReadPart = ℕ;
  from = q.from;
  rcut = q.rcut;
  ReadCode = ℕ;
  Got = ℕ;
  no_got = q.no_got;
  last = q.last;
  due_got = q.due_got;
  bad_burst = q.bad_burst;
  bad_beat = q.bad_beat;
  bad_wcode = q.bad_wcode;
  bad_rcode = q.bad_rcode;
}

-- the summing with these functions
abbrev pub summing_of : NumberedSums → Summing ℕ ℕ
summing_of s = record { Sum = ℕ; none = s.none; clean = s.clean; join = s.join }

-- the joining with these functions
abbrev pub joining_of : (q : Numbered) → Joining (pieces_of q)
joining_of q = record { writes = summing_of q.writes; answer = q.answer; reads = summing_of q.reads; got = q.got }

-- THE THEOREM: for all such pieces with a lawful joining, and for queues of any size, the bridge keeps the promise for every run
abbrev pub NumberedBridgesKeepPromise : Type 0
NumberedBridgesKeepPromise =
    (q : Numbered) → Lawful (pieces_of q) (joining_of q) → (sl : Slots) → PromiseStands (pieces_of q) (one_by_one (pieces_of q) (joining_of q) sl)
