-- What an edge's result names.
use Rattle.std.specs.Prelude.{false, ◌&&◌, is_some, Some, None, Option}
use Rattle.axi.specs.Verdicts.{verdict_of, at_level}
use Rattle.axi.specs.declared.plan.Plan.{Plan}
use Rattle.axi.specs.declared.plan.Level.TheVariants.{FullProtection}
use Rattle.axi.specs.declared.burst.Burst.{Burst}
use Rattle.ledgers.specs.Wires.{Inputs, Outputs}
use Rattle.engines.specs.Protocol.{pieces}
use Rattle.engines.specs.Queues.{when}
use Rattle.engines.specs.declared.taken.Taken.{Taken}
use Rattle.bridge.specs.declared.report.Crossed.{Crossed}
use Rattle.bridge.specs.declared.report.Verdicts.{Verdicts}
use Rattle.bridge.specs.declared.report.Report.{Report}
use Rattle.writes.specs.declared.side.WriteEvents.{WriteEvents}
use Rattle.reads.specs.declared.side.ReadEvents.{ReadEvents}

-- the verdict on a burst, and the one that full protection would give
abbrev pub verdicts_of : Plan → Burst → Verdicts
verdicts_of p b = record { verdict = verdict_of p b; protected = verdict_of (at_level FullProtection p) b }

-- a channel crosses if its VALID and READY are both high
abbrev pub crossed : (p : Plan) → Inputs (pieces p) → Outputs (pieces p) → Crossed
crossed p x o = record {
  aw = x.awvalid && o.awready;
  w = x.wvalid && o.wready;
  b = o.bvalid && x.bready;
  ar = x.arvalid && o.arready;
  r = o.rvalid && x.rready;
  law = o.lawvalid && x.lawready;
  lw = o.lwvalid && x.lwready;
  lb = x.lbvalid && o.lbready;
  lar = o.larvalid && x.larready;
  lr = x.lrvalid && o.lrready;
}

-- the channels that cross, and the verdicts on a write burst and a read burst that are taken
abbrev pub report_of : (p : Plan) → Inputs (pieces p) → Outputs (pieces p) → Report
report_of p x o = record {
  crossed = crossed p x o;
  write = when (x.awvalid && o.awready) (verdicts_of p x.aw);
  read = when (x.arvalid && o.arready) (verdicts_of p x.ar);
}

-- nothing crosses on a reset
abbrev pub no_report : Report
no_report = record {
  crossed = record { aw = false; w = false; b = false; ar = false; r = false; law = false; lw = false; lb = false; lar = false; lr = false };
  write = None;
  read = None;
}

-- the verdicts on a burst that was taken with its own
abbrev pub both_verdicts : Plan → Option Taken → Option Verdicts
both_verdicts p None = None
both_verdicts p (Some t) = Some (record { verdict = t.verdict; protected = verdict_of (at_level FullProtection p) t.burst })

-- the report of what crossed on both sides
abbrev pub report_of_events : Plan → WriteEvents → ReadEvents → Report
report_of_events p w r = record {
  crossed = record {
    aw = is_some w.aw;
    w = is_some w.w;
    b = w.b;
    ar = is_some r.ar;
    r = r.r;
    law = w.law;
    lw = w.lw;
    lb = w.lb;
    lar = r.lar;
    lr = r.lr;
  };
  write = both_verdicts p w.aw;
  read = both_verdicts p r.ar;
}
