-- The bridge as the machine of the promise.
use Rattle.std.specs.Prelude.{◌≡◌, ℕ, cond, Some, None, Ok, Err, Result}
use Rattle.axi.specs.Checks.{refused_inputs}
use Rattle.axi.specs.declared.wires.Refusal.{Refusal}
use Rattle.axi.specs.declared.plan.Plan.{Plan}
use Rattle.axi.specs.declared.wires.Inputs as declared_inputs
use Rattle.axi.specs.declared.wires.Outputs as declared
use Rattle.ledgers.specs.OneByOne.{State, Slots, one_by_one}
use Rattle.ledgers.specs.Promise.{Kept}
use Rattle.ledgers.specs.Wires.{Machine, Outputs, Call, after}
use Rattle.ledgers.specs.Wires.Call.{edge, ask_wires, ask_owed}
use Rattle.bridge.specs.Edges.{Settings, settings}
use Rattle.engines.specs.Inputs.{inputs_view}
use Rattle.engines.specs.Protocol.{pieces, joining}
use Rattle.bridge.specs.Reports.{report_of, no_report}
use Rattle.writes.specs.WriteSides.{Writes, writes_view}
use Rattle.reads.specs.ReadSides.{Reads, reads_view}
use Rattle.bridge.specs.declared.bridge.Bridge.{Bridge}
use Rattle.bridge.specs.declared.report.Report.{Report}

-- both sides together
abbrev pub both : (p : Plan) → Writes p → Reads p → State (pieces p) (joining p)
both p w r = record {
  write_bursts = w.bursts;
  write_beats = w.beats;
  answers = w.answers;
  writer = w.writer;
  read_bursts = r.bursts;
  read_beats = r.beats;
  reader = r.reader;
}

-- the entries of every queue, and both engines
abbrev pub seen : (p : Plan) → Bridge → State (pieces p) (joining p)
seen p b = both p (writes_view p b.writes) (reads_view p b.reads)

-- the slots of every queue
abbrev pub slots : Settings → Slots
slots s = record {
  write_bursts = s.write_side.bursts;
  write_beats = s.write_side.beats;
  answers = s.write_side.answers;
  read_bursts = s.read_side.bursts;
  read_beats = s.read_side.beats;
}

-- the machine of a bridge: of its plan and its slots
abbrev pub machine : (b : Bridge) → Machine (pieces b.plan)
machine b = one_by_one (pieces b.plan) (joining b.plan) (slots (settings b))

-- whatever run led to the bridge b, the run with this call leads to the bridge t and keeps the promise
abbrev pub Keeps : (b : Bridge) → Call (pieces b.plan) → Bridge → Type 0
Keeps b c t = Kept (pieces b.plan) (machine b) (seen b.plan b) c (seen b.plan t)

-- the wires that the bridge drives
abbrev pub outputs_view : (p : Plan) → declared.Outputs → Outputs (pieces p)
outputs_view p o = record {
  awready = o.awready;
  wready = o.wready;
  bvalid = o.bvalid;
  b = o.b;
  arready = o.arready;
  rvalid = o.rvalid;
  r = o.r;
  lawvalid = o.lawvalid;
  law = o.law;
  lwvalid = o.lwvalid;
  lw = o.lw;
  lbready = o.lbready;
  larvalid = o.larvalid;
  lar = o.lar;
  lrready = o.lrready;
}

-- an edge with these wires, as a call on the machine
abbrev pub edge_call : (b : Bridge) → declared_inputs.Inputs → Call (pieces b.plan)
edge_call b x = edge (inputs_view b.plan x)

-- the state after it
abbrev pub after_edge : (b : Bridge) → declared_inputs.Inputs → State (pieces b.plan) (joining b.plan)
after_edge b x = after (pieces b.plan) (machine b) (seen b.plan b) (edge_call b x)

-- what it reports: nothing on a reset, else the channels that cross and the verdicts on the bursts taken
abbrev pub told : Bridge → declared_inputs.Inputs → Report
told b x = cond x.aresetn (report_of b.plan (inputs_view b.plan x) ((machine b).shown (seen b.plan b))) no_report

-- what an edge from bridge b to bridge t answers: its report where no field is too large, else the first refusal, and nothing is altered
abbrev pub Answered : Bridge → declared_inputs.Inputs → Bridge → Result Report Refusal → Type 0
Answered b x t (Ok report) = (refused_inputs b.plan x ≡ None) × (report ≡ told b x)
Answered b x t (Err e) = (refused_inputs b.plan x ≡ Some e) × (t ≡ b)

-- the questions for the wires and for what is owed, as calls on the machine
abbrev pub ask_wires_of : (b : Bridge) → Call (pieces b.plan)
ask_wires_of b = ask_wires

abbrev pub ask_owed_of : (b : Bridge) → Call (pieces b.plan)
ask_owed_of b = ask_owed

-- what the machine drives and owes
abbrev pub shown_by : (b : Bridge) → Outputs (pieces b.plan)
shown_by b = (machine b).shown (seen b.plan b)

abbrev pub writes_owed_by : Bridge → ℕ
writes_owed_by b = (machine b).writes_owed (seen b.plan b)

abbrev pub reads_owed_by : Bridge → ℕ
reads_owed_by b = (machine b).reads_owed (seen b.plan b)
