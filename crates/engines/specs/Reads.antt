-- What the read engine's state stands for.
use Rattle.std.specs.Prelude.{List, map}
use Rattle.answers.specs.declared.read.ReadAnswer.{ReadAnswer}
use Rattle.parts.specs.Parts.{further}
use Rattle.axi.specs.declared.plan.Plan.{Plan}
use Rattle.parts.specs.declared.cut.Parts.{Parts}
use Rattle.axi.specs.declared.wires.Place.{Place}
use Rattle.ledgers.specs.Reader as spec
use Rattle.engines.specs.Protocol.{pieces, joining, place}
use Rattle.engines.specs.Queues.{when}
use Rattle.engines.specs.Tasks.{task_burst, task_sum}
use Rattle.engines.specs.declared.task.Task.{Task}
use Rattle.engines.specs.declared.reader.Reader.{Reader}
use Rattle.engines.specs.declared.reader.Reader.TheVariants.{Idle, Send, Await, Close}
use Rattle.engines.specs.declared.reader.ReaderWires.{ReaderWires}

-- the part at hand, and the parts of its beat after it
abbrev pub part_at : Task ReadAnswer → Parts → Place
part_at t c = place t.walk.burst c.at

abbrev pub parts_after : Plan → Task ReadAnswer → Parts → List Place
parts_after p t c = map (place t.walk.burst) (further p c.at c.more)

abbrev pub reader_view : (p : Plan) → Reader → spec.Reader (pieces p) (joining p)
reader_view p Idle = spec.Reader.idle
reader_view p (Send t c) = spec.Reader.send (task_burst t) t.walk.count (task_sum t) (part_at t c) (parts_after p t c)
reader_view p (Await t c) = spec.Reader.await (task_burst t) t.walk.count (task_sum t) (part_at t c) (parts_after p t c)
reader_view p (Close t) = spec.Reader.close (task_burst t) t.walk.count (task_sum t)

-- what the engine drives: a part on LAR where LARVALID is high, and LRREADY
abbrev pub reader_wires : Plan → Reader → ReaderWires
reader_wires p r = record {
  lar = when (spec.lar_valid (reader_view p r)) (spec.lar_shown (reader_view p r));
  lrready = spec.lr_ready (reader_view p r);
}
