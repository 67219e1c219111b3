-- What the write engine's state stands for.
use Rattle.std.specs.Prelude.{◌-◌, Bool, true, false, List, map}
use Rattle.parts.specs.Parts.{further}
use Rattle.axi.specs.declared.plan.Plan.{Plan}
use Rattle.axi.specs.declared.code.Code.{Code}
use Rattle.ledgers.specs.Writer as spec
use Rattle.ledgers.specs.Writer.Side.{law_side, lw_side}
use Rattle.engines.specs.Protocol.{pieces, joining, WritePart, write_part, no_place, no_beat}
use Rattle.engines.specs.Queues.{when}
use Rattle.engines.specs.Tasks.{task_burst, task_sum}
use Rattle.engines.specs.declared.task.Task.{Task}
use Rattle.engines.specs.declared.writer.Part.{Part}
use Rattle.engines.specs.declared.writer.Uncrossed.{Uncrossed}
use Rattle.engines.specs.declared.writer.Uncrossed.TheVariants.{Both, Law, Lw}
use Rattle.engines.specs.declared.writer.WriterWires.{WriterWires}
use Rattle.engines.specs.declared.writer.Writer.{Writer}
use Rattle.engines.specs.declared.writer.Writer.TheVariants.{Idle, Fetch, Send, Await, Close}

-- whether a part has crossed on LAW, and whether on LW
abbrev pub law_crossed : Uncrossed → Bool
law_crossed Both = false
law_crossed Law = false
law_crossed Lw = true

abbrev pub lw_crossed : Uncrossed → Bool
lw_crossed Both = false
lw_crossed Law = true
lw_crossed Lw = false

-- the part at hand, and the parts of its beat after it
abbrev pub part_at : Plan → Task Code → Part → WritePart
part_at p t q = write_part p t.walk.burst q.beat q.parts.at

abbrev pub parts_after : Plan → Task Code → Part → List WritePart
parts_after p t q = map (write_part p t.walk.burst q.beat) (further p q.parts.at q.parts.more)

abbrev pub writer_view : (p : Plan) → Writer → spec.Writer (pieces p) (joining p)
writer_view p Idle = spec.Writer.idle
writer_view p (Fetch t) = spec.Writer.fetch (task_burst t) (t.walk.count - 1) (task_sum t)
writer_view p (Send t q u) = spec.Writer.send (task_burst t) t.walk.count (task_sum t) (part_at p t q) (parts_after p t q) (law_crossed u) (lw_crossed u)
writer_view p (Await t q) = spec.Writer.await (task_burst t) t.walk.count (task_sum t) (part_at p t q) (parts_after p t q)
writer_view p (Close t) = spec.Writer.close (task_burst t) (task_sum t)

-- what the engine drives: a part on LAW and on LW where their VALID is high, and LBREADY
abbrev pub writer_wires : Plan → Writer → WriterWires
writer_wires p w = record {
  law = when (spec.valid_on law_side (writer_view p w)) (spec.shown_on law_side no_place (λ q. q.place) (writer_view p w));
  lw = when (spec.valid_on lw_side (writer_view p w)) (spec.shown_on lw_side no_beat (λ q. q.lanes) (writer_view p w));
  lbready = spec.lb_ready (writer_view p w);
}
