-- The write side of the bridge: its three queues and its engine.
use Rattle.std.specs.Prelude.{◌≡◌, ℕ, ◌&&◌, List, [], ◌++◌}
use Rattle.ring.specs.Entries.{entries, slot_count}
use Rattle.axi.specs.declared.plan.Plan.{Plan}
use Rattle.axi.specs.declared.wires.Beat.{Beat}
use Rattle.axi.specs.declared.wires.Inputs as declared
use Rattle.axi.specs.declared.wires.WriteAnswer.{WriteAnswer}
use Rattle.ledgers.specs.Lists.{less_if, any}
use Rattle.ledgers.specs.Wires.{Inputs}
use Rattle.ledgers.specs.OneByOne.{room}
use Rattle.ledgers.specs.Writer as spec
use Rattle.ledgers.specs.Writer.Side.{law_side, lw_side}
use Rattle.engines.specs.Inputs.{inputs_view}
use Rattle.engines.specs.Queues.{entered, when}
use Rattle.engines.specs.Protocol.{pieces, joining, judged}
use Rattle.engines.specs.Writes.{writer_view}
use Rattle.engines.specs.declared.taken.Taken.{Taken}
use Rattle.writes.specs.declared.side.WriteSide.{WriteSide}
use Rattle.writes.specs.declared.side.WriteEvents.{WriteEvents}
use Rattle.writes.specs.declared.side.Below.{Below}

-- what waits, and what the engine does
pub record Writes (p : Plan) : Type 0 where
  pub bursts : List Taken
  pub beats : List Beat
  pub answers : List WriteAnswer
  pub writer : spec.Writer (pieces p) (joining p)

-- how many slots each queue has
pub record WriteSlots : Type 0 where
  pub bursts : ℕ
  pub beats : ℕ
  pub answers : ℕ

abbrev pub writes_view : (p : Plan) → WriteSide → Writes p
writes_view p w = record { bursts = entries w.bursts; beats = entries w.beats; answers = entries w.answers; writer = writer_view p w.writer }

abbrev pub write_slots : WriteSide → WriteSlots
write_slots w = record { bursts = slot_count w.bursts; beats = slot_count w.beats; answers = slot_count w.answers }

-- nothing waits, and the engine is idle
abbrev pub no_writes : (p : Plan) → Writes p
no_writes p = record { bursts = []; beats = []; answers = []; writer = spec.Writer.idle }

-- the engine's move: what it takes from the queues, the answer it gives, and its next state
abbrev pub writes_moved : (p : Plan) → WriteSlots → Writes p → Inputs (pieces p) → Writes p
writes_moved p sl s x =
    let free = room sl.answers s.answers in
    record {
      bursts = less_if (spec.takes_burst s.writer) s.bursts;
      beats = less_if (spec.takes_beat s.writer) s.beats;
      answers = s.answers ++ spec.closing (pieces p) (joining p) s.writer free;
      writer = spec.move (pieces p) (joining p) s.writer s.bursts s.beats free x;
    }

-- what crosses on an edge: the burst taken above with its verdict, the data beat, and whether B, LAW, LW and LB cross
abbrev pub write_events : (p : Plan) → WriteSlots → Writes p → Inputs (pieces p) → WriteEvents
write_events p sl s x = record {
  aw = when (x.awvalid && room sl.bursts s.bursts) (judged p x.aw);
  w = when (x.wvalid && room sl.beats s.beats) x.w;
  b = any s.answers && x.bready;
  law = spec.valid_on law_side s.writer && x.lawready;
  lw = spec.valid_on lw_side s.writer && x.lwready;
  lb = x.lbvalid && spec.lb_ready s.writer;
}

-- what crosses above: a burst and a beat enter, an answer leaves
abbrev pub writes_crossed : {p : Plan} → WriteSlots → WriteEvents → Writes p → Writes p
writes_crossed sl e s = record {
  bursts = entered sl.bursts e.aw s.bursts;
  beats = entered sl.beats e.w s.beats;
  answers = less_if e.b s.answers;
  writer = s.writer;
}

-- one edge: the engine moves, then what crosses above enters and leaves
abbrev pub writes_edged : (p : Plan) → WriteSlots → Writes p → Inputs (pieces p) → Writes p
writes_edged p sl s x = writes_crossed sl (write_events p sl s x) (writes_moved p sl s x)

-- the same of a write side and the wires of an edge: what crosses, the engine's move, and the edge
abbrev pub write_side_events : Plan → WriteSide → declared.Inputs → WriteEvents
write_side_events p w x = write_events p (write_slots w) (writes_view p w) (inputs_view p x)

abbrev pub write_side_moved : (p : Plan) → WriteSide → declared.Inputs → Writes p
write_side_moved p w x = writes_moved p (write_slots w) (writes_view p w) (inputs_view p x)

abbrev pub write_side_edged : (p : Plan) → WriteSide → declared.Inputs → Writes p
write_side_edged p w x = writes_edged p (write_slots w) (writes_view p w) (inputs_view p x)

-- what of it crosses below
abbrev pub below_of : WriteEvents → Below
below_of e = record { law = e.law; lw = e.lw; lb = e.lb }

-- the write side w becomes t: what waits and what the engine does is s, and each queue keeps its slots
pub record WritesBecome (p : Plan) (w t : WriteSide) (s : Writes p) : Type 0 where
  pub view : writes_view p t ≡ s
  pub kept : write_slots t ≡ write_slots w
