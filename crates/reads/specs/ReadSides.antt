-- The read side of the bridge: its two queues and its engine.
use Rattle.std.specs.Prelude.{◌≡◌, ℕ, ◌&&◌, List, [], ◌++◌}
use Rattle.ring.specs.Entries.{entries, slot_count}
use Rattle.axi.specs.declared.plan.Plan.{Plan}
use Rattle.axi.specs.declared.wires.ReadBeat.{ReadBeat}
use Rattle.axi.specs.declared.wires.Inputs as declared
use Rattle.ledgers.specs.Lists.{less_if, any}
use Rattle.ledgers.specs.Wires.{Inputs}
use Rattle.ledgers.specs.OneByOne.{room}
use Rattle.ledgers.specs.Reader as spec
use Rattle.engines.specs.Inputs.{inputs_view}
use Rattle.engines.specs.Queues.{entered, when}
use Rattle.engines.specs.Protocol.{pieces, joining, judged}
use Rattle.engines.specs.Reads.{reader_view}
use Rattle.engines.specs.declared.taken.Taken.{Taken}
use Rattle.reads.specs.declared.side.ReadSide.{ReadSide}
use Rattle.reads.specs.declared.side.ReadEvents.{ReadEvents}
use Rattle.reads.specs.declared.side.Below.{Below}

-- what waits, and what the engine does
pub record Reads (p : Plan) : Type 0 where
  pub bursts : List Taken
  pub beats : List ReadBeat
  pub reader : spec.Reader (pieces p) (joining p)

-- how many slots each queue has
pub record ReadSlots : Type 0 where
  pub bursts : ℕ
  pub beats : ℕ

abbrev pub reads_view : (p : Plan) → ReadSide → Reads p
reads_view p r = record { bursts = entries r.bursts; beats = entries r.beats; reader = reader_view p r.reader }

abbrev pub read_slots : ReadSide → ReadSlots
read_slots r = record { bursts = slot_count r.bursts; beats = slot_count r.beats }

-- nothing waits, and the engine is idle
abbrev pub no_reads : (p : Plan) → Reads p
no_reads p = record { bursts = []; beats = []; reader = spec.Reader.idle }

-- the engine's move: what it takes from the queue, the beat it gives, and its next state
abbrev pub reads_moved : (p : Plan) → ReadSlots → Reads p → Inputs (pieces p) → Reads p
reads_moved p sl s x =
    let free = room sl.beats s.beats in
    record {
      bursts = less_if (spec.takes_burst s.reader) s.bursts;
      beats = s.beats ++ spec.closing (pieces p) (joining p) s.reader free;
      reader = spec.move (pieces p) (joining p) s.reader s.bursts free x;
    }

-- what crosses on an edge: the burst taken above with its verdict, and whether R, LAR and LR cross
abbrev pub read_events : (p : Plan) → ReadSlots → Reads p → Inputs (pieces p) → ReadEvents
read_events p sl s x = record {
  ar = when (x.arvalid && room sl.bursts s.bursts) (judged p x.ar);
  r = any s.beats && x.rready;
  lar = spec.lar_valid s.reader && x.larready;
  lr = x.lrvalid && spec.lr_ready s.reader;
}

-- what crosses above: a burst enters, a beat leaves
abbrev pub reads_crossed : {p : Plan} → ReadSlots → ReadEvents → Reads p → Reads p
reads_crossed sl e s = record { bursts = entered sl.bursts e.ar s.bursts; beats = less_if e.r s.beats; reader = s.reader }

-- one edge: the engine moves, then what crosses above enters and leaves
abbrev pub reads_edged : (p : Plan) → ReadSlots → Reads p → Inputs (pieces p) → Reads p
reads_edged p sl s x = reads_crossed sl (read_events p sl s x) (reads_moved p sl s x)

-- the same of a read side and the wires of an edge: what crosses, the engine's move, and the edge
abbrev pub read_side_events : Plan → ReadSide → declared.Inputs → ReadEvents
read_side_events p r x = read_events p (read_slots r) (reads_view p r) (inputs_view p x)

abbrev pub read_side_moved : (p : Plan) → ReadSide → declared.Inputs → Reads p
read_side_moved p r x = reads_moved p (read_slots r) (reads_view p r) (inputs_view p x)

abbrev pub read_side_edged : (p : Plan) → ReadSide → declared.Inputs → Reads p
read_side_edged p r x = reads_edged p (read_slots r) (reads_view p r) (inputs_view p x)

-- what of it crosses below
abbrev pub below_of : ReadEvents → Below
below_of e = record { lar = e.lar; lr = e.lr }

-- the read side r becomes t: what waits and what the engine does is s, and each queue keeps its slots
pub record ReadsBecome (p : Plan) (r t : ReadSide) (s : Reads p) : Type 0 where
  pub view : reads_view p t ≡ s
  pub kept : read_slots t ≡ read_slots r
