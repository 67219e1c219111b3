-- The bridge with one part under way at a time on each side: five queues, a writer and a reader.
use Rattle.std.specs.Prelude.{Bool, ◌&&◌, List, [], ◌++◌, ℕ, ◌+◌, length, ltb}
use Rattle.ledgers.specs.Pieces.{Pieces}
use Rattle.ledgers.specs.Joining.{Joining}
use Rattle.ledgers.specs.Lists.{just_if, less_if, any, oldest}
use Rattle.ledgers.specs.Wires.{Inputs, Outputs, Machine}
use Rattle.ledgers.specs.Due.{lasts}
use Rattle.ledgers.specs.Writer as write
use Rattle.ledgers.specs.Writer.Side.{law_side, lw_side}
use Rattle.ledgers.specs.Reader as read

-- how many entries each queue has room for
pub record Slots : Type 0 where
  pub write_bursts : ℕ
  pub write_beats : ℕ
  pub answers : ℕ
  pub read_bursts : ℕ
  pub read_beats : ℕ

-- what waits: bursts from AW, data beats from W, answers for B, bursts from AR, beats for R; and the writer and the reader
pub record State (K : Pieces) (J : Joining K) : Type 0 where
  pub write_bursts : List K.Burst
  pub write_beats : List K.Beat
  pub answers : List K.Ans
  pub writer : write.Writer K J
  pub read_bursts : List K.Burst
  pub read_beats : List K.Got
  pub reader : read.Reader K J

-- a queue with n slots is not full
abbrev pub room : {A : Type 0} → ℕ → List A → Bool
room n xs = ltb (length xs) n

module _ (K : Pieces) (J : Joining K) where
  -- nothing waits, and nothing is at hand
  abbrev pub made : State K J
  made = record {
    write_bursts = [];
    write_beats = [];
    answers = [];
    writer = write.Writer.idle;
    read_bursts = [];
    read_beats = [];
    reader = read.Reader.idle;
  }

  -- the wires that it drives
  abbrev pub shown : Slots → State K J → Outputs K
  shown sl s = record {
    awready = room sl.write_bursts s.write_bursts;
    wready = room sl.write_beats s.write_beats;
    bvalid = any s.answers;
    b = oldest K.no_ans s.answers;
    arready = room sl.read_bursts s.read_bursts;
    rvalid = any s.read_beats;
    r = oldest K.no_got s.read_beats;
    lawvalid = write.valid_on law_side s.writer;
    law = write.shown_on law_side K.no_at K.at s.writer;
    lwvalid = write.valid_on lw_side s.writer;
    lw = write.shown_on lw_side K.no_lane K.lane s.writer;
    lbready = write.lb_ready s.writer;
    larvalid = read.lar_valid s.reader;
    lar = read.lar_shown s.reader;
    lrready = read.lr_ready s.reader;
  }

  -- the queue for B is not full
  abbrev pub answer_room : Slots → State K J → Bool
  answer_room sl s = room sl.answers s.answers

  -- the queue for R is not full
  abbrev pub beat_room : Slots → State K J → Bool
  beat_room sl s = room sl.read_beats s.read_beats

  -- an edge with ARESETn high
  abbrev pub step : Slots → State K J → Inputs K → State K J
  step sl s x =
      let o = shown sl s in
      record {
        write_bursts = less_if (write.takes_burst s.writer) s.write_bursts ++ just_if (x.awvalid && o.awready) (K.judge x.aw);
        write_beats = less_if (write.takes_beat s.writer) s.write_beats ++ just_if (x.wvalid && o.wready) x.w;
        answers = less_if x.bready s.answers ++ write.closing K J s.writer (answer_room sl s);
        writer = write.move K J s.writer s.write_bursts s.write_beats (answer_room sl s) x;
        read_bursts = less_if (read.takes_burst s.reader) s.read_bursts ++ just_if (x.arvalid && o.arready) (K.judge x.ar);
        read_beats = less_if x.rready s.read_beats ++ read.closing K J s.reader (beat_room sl s);
        reader = read.move K J s.reader s.read_bursts (beat_room sl s) x;
      }

  -- write bursts taken and not yet answered: those that wait, the one at hand and those whose answer waits
  abbrev pub writes_owed : State K J → ℕ
  writes_owed s = length s.write_bursts + write.busy s.writer + length s.answers

  -- read bursts taken whose last beat has not crossed
  abbrev pub reads_owed : State K J → ℕ
  reads_owed s = length s.read_bursts + read.busy s.reader + lasts K s.read_beats

  -- the bridge as a machine
  abbrev pub one_by_one : Slots → Machine K
  one_by_one sl = record {
    State = State K J;
    made = made;
    shown = shown sl;
    step = step sl;
    writes_owed = writes_owed;
    reads_owed = reads_owed;
  }
