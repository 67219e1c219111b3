-- What crosses by the report is what crosses by the wires.
use Rattle.std.proofs.Common.{◌≡◌, Bool, true, false, ◌&&◌, List, [], ◌∷◌, ◌++◌, map, Option, refl}
use Rattle.axi.specs.declared.burst.Burst.{Burst}
use Rattle.axi.specs.declared.plan.Plan.{Plan}
use Rattle.axi.specs.declared.wires.Inputs as inputs
use Rattle.axi.specs.declared.wires.Outputs as outputs
use Rattle.engines.specs.Inputs.{inputs_view}
use Rattle.bridge.specs.Machines.{outputs_view}
use Rattle.engines.specs.Protocol.{pieces, judged}
use Rattle.engines.specs.Queues.{when}
use Rattle.bridge.specs.Reports.{report_of, verdicts_of}
use Rattle.engines.specs.declared.taken.Taken.{Taken}
use Rattle.ledgers.specs.Ledgers.{crossing}
use Rattle.ledgers.specs.Lists.{just_if}
use Rattle.transcript.specs.Crossings.{there, verdict_told, edge_crossings}
use Rattle.playback.specs.Runs.{in_order}
use Rattle.transcript.specs.declared.crossing.Crossing.{Crossing}
use Rattle.transcript.specs.declared.crossing.Crossing.TheVariants.{Aw, W, B, Ar, R, Law, Lw, Lb, Lar, Lr}

-- one channel in front of the others
crosses : {X : Type 0} (channel : X → Crossing) (b : Bool) (x : X) (os : List (Option Crossing)) (cs : List Crossing) → there os ≡ cs → there (when b (channel x) ∷ os) ≡ map channel (just_if b x) ++ cs
crosses channel true x os cs e = cc
crosses channel false x os cs e = e

-- the last channel
last_crosses : {X : Type 0} (channel : X → Crossing) (b : Bool) (x : X) → there (when b (channel x) ∷ []) ≡ map channel (just_if b x)
last_crosses channel true x = refl
last_crosses channel false x = refl

-- a burst that is taken has the verdict of the plan
takes : (channel : Taken → Crossing) (p : Plan) (b : Bool) (x : Burst) (os : List (Option Crossing)) (cs : List Crossing) → there os ≡ cs → there (when b (channel (record { burst = x; verdict = verdict_told (when b (verdicts_of p x)) })) ∷ os) ≡ map channel (just_if b (judged p x)) ++ cs
takes channel p true x os cs e = cc
takes channel p false x os cs e = e

pub told_in_order : (p : Plan) (x : inputs.Inputs) (o : outputs.Outputs) → there (edge_crossings (report_of p (inputs_view p x) (outputs_view p o)) x o) ≡ in_order p (crossing (pieces p) (inputs_view p x) (outputs_view p o))
told_in_order p x o =
    takes Aw p (x.awvalid && o.awready) x.aw _ _
    (crosses W (x.wvalid && o.wready) x.w _ _
    (crosses B (o.bvalid && x.bready) o.b _ _
    (takes Ar p (x.arvalid && o.arready) x.ar _ _
    (crosses R (o.rvalid && x.rready) o.r _ _
    (crosses Law (o.lawvalid && x.lawready) o.law _ _
    (crosses Lw (o.lwvalid && x.lwready) o.lw _ _
    (crosses Lb (x.lbvalid && o.lbready) x.lbresp _ _
    (crosses Lar (o.larvalid && x.larready) o.lar _ _
    (last_crosses Lr (x.lrvalid && o.lrready) x.lr)))))))))
