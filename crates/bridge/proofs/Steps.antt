-- An edge of both sides is an edge of the machine.
use Rattle.std.proofs.Common.{◌≡◌, Bool, true, false, cond, ◌&&◌, ◌||◌, is_some, Some, None, refl}
use Rattle.axi.specs.Checks.{refused_inputs, refuses_inputs}
use Rattle.axi.specs.declared.plan.Plan.{Plan}
use Rattle.axi.specs.declared.burst.Burst.{Burst}
use Rattle.axi.specs.declared.wires.Inputs.{Inputs}
use Rattle.axi.specs.declared.wires.Refusal.TheVariants.{WriteBurst, DataBeat, ReadBurst, WriteCode, ReadPart}
use Rattle.ledgers.specs.OneByOne.{room, step, shown}
use Rattle.ledgers.specs.Wires.{refused_edge}
use Rattle.ledgers.specs.Writer as write
use Rattle.ledgers.specs.Reader as read
use Rattle.bridge.specs.Edges.{settings, writes_after, reads_after, edge_report}
use Rattle.engines.specs.Inputs.{inputs_view}
use Rattle.bridge.specs.Machines.{both, seen, slots}
use Rattle.engines.specs.Protocol.{pieces, joining, judged}
use Rattle.engines.specs.Queues.{when}
use Rattle.bridge.specs.Reports.{report_of, both_verdicts, verdicts_of}
use Rattle.writes.specs.WriteSides.{writes_view, write_slots}
use Rattle.reads.specs.ReadSides.{reads_view, read_slots}
use Rattle.bridge.specs.declared.bridge.Bridge.{Bridge}
use Rattle.bridge.proofs.QueueLaws.{enters, leaves, is_when}

pub is_step : (b : Bridge) (x : Inputs) → both b.plan (writes_after b x) (reads_after b x) ≡ step (pieces b.plan) (joining b.plan) (slots (settings b)) (seen b.plan b) (inputs_view b.plan x)
is_step b x =
    let p = b.plan in
    let K = pieces p in
    let J = joining p in
    let w = writes_view p b.writes in
    let r = reads_view p b.reads in
    let ws = write_slots b.writes in
    let rs = read_slots b.reads in
    let after = step K J (slots (settings b)) (seen p b) (inputs_view p x) in
    λ i. record {
      write_bursts = enters ws.bursts x.awvalid (write.takes_burst w.writer) (judged p x.aw) w.bursts i;
      write_beats = enters ws.beats x.wvalid (write.takes_beat w.writer) x.w w.beats i;
      answers = leaves x.bready w.answers (write.closing K J w.writer (room ws.answers w.answers)) i;
      writer = after.writer;
      read_bursts = enters rs.bursts x.arvalid (read.takes_burst r.reader) (judged p x.ar) r.bursts i;
      read_beats = leaves x.rready r.beats (read.closing K J r.reader (room rs.beats r.beats)) i;
      reader = after.reader;
    }

verdicts_when : (p : Plan) (c : Bool) (b : Burst) → both_verdicts p (when c (judged p b)) ≡ when c (verdicts_of p b)
verdicts_when p true b = refl
verdicts_when p false b = refl

pub is_report : (b : Bridge) (x : Inputs) → edge_report b x ≡ report_of b.plan (inputs_view b.plan x) (shown (pieces b.plan) (joining b.plan) (slots (settings b)) (seen b.plan b))
is_report b x =
    let p = b.plan in
    let o = shown (pieces p) (joining p) (slots (settings b)) (seen p b) in
    let told = (edge_report b x).crossed in
    λ i. record {
      crossed = record {
        aw = is_when (x.awvalid && o.awready) (judged p x.aw) i;
        w = is_when (x.wvalid && o.wready) x.w i;
        b = told.b;
        ar = is_when (x.arvalid && o.arready) (judged p x.ar) i;
        r = told.r;
        law = told.law;
        lw = told.lw;
        lb = told.lb;
        lar = told.lar;
        lr = told.lr;
      };
      write = verdicts_when p (x.awvalid && o.awready) x.aw i;
      read = verdicts_when p (x.arvalid && o.arready) x.ar i;
    }

first_or : {X : Type 0} (r a b c d e : Bool) (v w x y z : X) →
    (r && (a || b || c || d || e)) ≡ is_some (cond r (cond a (Some v) (cond b (Some w) (cond c (Some x) (cond d (Some y) (cond e (Some z) None))))) None)
first_or false a b c d e v w x y z = refl
first_or true true b c d e v w x y z = refl
first_or true false true c d e v w x y z = refl
first_or true false false true d e v w x y z = refl
first_or true false false false true e v w x y z = refl
first_or true false false false false true v w x y z = refl
first_or true false false false false false v w x y z = refl

-- the machine refuses just the edges that have a refusal
pub is_refused : (p : Plan) (x : Inputs) → refused_edge (pieces p) (inputs_view p x) ≡ is_some (refused_inputs p x)
is_refused p x = first_or x.aresetn (refuses_inputs p x WriteBurst) (refuses_inputs p x DataBeat) (refuses_inputs p x ReadBurst) (refuses_inputs p x WriteCode) (refuses_inputs p x ReadPart) WriteBurst DataBeat ReadBurst WriteCode ReadPart
