-- One edge of the whole bridge, side by side.
use Rattle.std.specs.Prelude.{◌≡◌, cond, Some, None, Ok, Err, Result}
use Rattle.axi.specs.Checks.{refused_inputs}
use Rattle.axi.specs.declared.plan.Plan.{Plan}
use Rattle.axi.specs.declared.wires.Inputs.{Inputs}
use Rattle.axi.specs.declared.wires.Refusal.{Refusal}
use Rattle.bridge.specs.Reports.{report_of_events, no_report}
use Rattle.writes.specs.WriteSides.{Writes, WriteSlots, writes_view, write_slots, write_side_events, write_side_edged, no_writes}
use Rattle.reads.specs.ReadSides.{Reads, ReadSlots, reads_view, read_slots, read_side_events, read_side_edged, no_reads}
use Rattle.bridge.specs.declared.bridge.Bridge.{Bridge}
use Rattle.bridge.specs.declared.report.Report.{Report}

-- the plan and the slots of the five queues, which no edge alters
pub record Settings : Type 0 where
  pub plan : Plan
  pub write_side : WriteSlots
  pub read_side : ReadSlots

abbrev pub settings : Bridge → Settings
settings b = record { plan = b.plan; write_side = write_slots b.writes; read_side = read_slots b.reads }

-- both sides after an edge with ARESETn high and wires that fit
abbrev pub writes_after : (b : Bridge) → Inputs → Writes b.plan
writes_after b x = write_side_edged b.plan b.writes x

abbrev pub reads_after : (b : Bridge) → Inputs → Reads b.plan
reads_after b x = read_side_edged b.plan b.reads x

-- what the edge reports
abbrev pub edge_report : Bridge → Inputs → Report
edge_report b x = report_of_events b.plan (write_side_events b.plan b.writes x) (read_side_events b.plan b.reads x)

-- the bridge b becomes t: its sides are w and r, and its plan and its slots are kept
pub record Becomes (b t : Bridge) (w : Writes b.plan) (r : Reads b.plan) : Type 0 where
  pub writes : writes_view b.plan t.writes ≡ w
  pub reads : reads_view b.plan t.reads ≡ r
  pub kept : settings t ≡ settings b

-- an edge that is not refused: both sides move, or are made anew by a reset
pub record Accepted (b : Bridge) (x : Inputs) (told : Report) (after : Bridge) : Type 0 where
  pub fits : refused_inputs b.plan x ≡ None
  pub report : told ≡ cond x.aresetn (edge_report b x) no_report
  pub becomes : Becomes b after (cond x.aresetn (writes_after b x) (no_writes b.plan)) (cond x.aresetn (reads_after b x) (no_reads b.plan))

-- an edge from bridge b to bridge t: accepted, or refused for this reason and nothing altered
abbrev pub Outcome : Bridge → Inputs → Bridge → Result Report Refusal → Type 0
Outcome b x t (Ok told) = Accepted b x told t
Outcome b x t (Err e) = (refused_inputs b.plan x ≡ Some e) × (t ≡ b)
