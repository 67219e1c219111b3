-- What an edge does is what the machine does, and so it keeps the promise.
use Rattle.std.proofs.Common.{◌≡◌, Bool, true, false, cond, is_some, Ok, Err, Result, sym, refl, ap, ◌∙◌, ap₂}
use Rattle.axi.specs.declared.plan.Plan.{Plan}
use Rattle.axi.specs.declared.wires.Inputs.{Inputs}
use Rattle.axi.specs.declared.wires.Refusal.{Refusal}
use Rattle.ledgers.specs.OneByOne.{step, made}
use Rattle.ledgers.specs.Wires.{Call}
use Rattle.ledgers.specs.Promise.{PromiseStands}
use Rattle.ledgers.proofs.Kept as promise
use Rattle.ledgers.proofs.OneByOneStands.{one_by_one_stands}
use Rattle.bridge.specs.Edges.{settings, Accepted, Outcome, writes_after, reads_after}
use Rattle.engines.specs.Inputs.{inputs_view}
use Rattle.bridge.specs.Machines.{both, seen, slots, machine, Keeps, after_edge, Answered}
use Rattle.engines.specs.Protocol.{pieces, joining}
use Rattle.bridge.specs.Reports.{no_report}
use Rattle.writes.specs.WriteSides.{Writes, no_writes}
use Rattle.reads.specs.ReadSides.{Reads, no_reads}
use Rattle.bridge.specs.declared.bridge.Bridge.{Bridge}
use Rattle.bridge.specs.declared.report.Report.{Report}
use Rattle.bridge.proofs.Lawful.{lawful}
use Rattle.bridge.proofs.Steps.{is_step, is_report, is_refused}

-- the machine of every bridge keeps the promise
pub stands : (b : Bridge) → PromiseStands (pieces b.plan) (machine b)
stands b = one_by_one_stands (lawful b.plan) (slots (settings b))

pub keeps : (b : Bridge) (c : Call (pieces b.plan)) (t : Bridge) → seen b.plan t ≡ Rattle.ledgers.specs.Wires.after (pieces b.plan) (machine b) (seen b.plan b) c → Keeps b c t
keeps b c t e = promise.kept (pieces b.plan) (machine b) (stands b) (seen b.plan b) (seen b.plan t) c e

both_or : (p : Plan) (q : Bool) (w v : Writes p) (r s : Reads p) → both p (cond q w v) (cond q r s) ≡ cond q (both p w r) (both p v s)
both_or p true w v r s = refl
both_or p false w v r s = refl

accepted_moved : (b : Bridge) (x : Inputs) (report : Report) (t : Bridge) → Accepted b x report t → seen b.plan t ≡ after_edge b x
accepted_moved b x report t a =
    let p = b.plan in
    let K = pieces p in
    let J = joining p in
    let q = x.aresetn in
    let goes = step K J (slots (settings b)) (seen p b) (inputs_view p x) in
    ap₂ (both p) a.becomes.writes a.becomes.reads
    ∙ both_or p q (writes_after b x) (no_writes p) (reads_after b x) (no_reads p)
    ∙ ap (λ s. cond q s (made K J)) (is_step b x)
    ∙ sym (ap (λ no. cond no (seen p b) (cond q goes (made K J))) (is_refused p x ∙ ap is_some a.fits))

pub moved : (b : Bridge) (x : Inputs) (t : Bridge) (r : Result Report Refusal) → Outcome b x t r → seen b.plan t ≡ after_edge b x
moved b x t (Ok report) a = accepted_moved b x report t a
moved b x t (Err e) o =
    let p = b.plan in
    let K = pieces p in
    let J = joining p in
    let goes = step K J (slots (settings b)) (seen p b) (inputs_view p x) in
    ap (seen p) o.1 ∙ sym (ap (λ no. cond no (seen p b) (cond x.aresetn goes (made K J))) (is_refused p x ∙ ap is_some o.0))

pub kept : (b : Bridge) (x : Inputs) (t : Bridge) (r : Result Report Refusal) → Outcome b x t r → settings t ≡ settings b
kept b x t (Ok report) a = a.becomes.kept
kept b x t (Err e) o = ap settings o.1

pub said : (b : Bridge) (x : Inputs) (t : Bridge) (r : Result Report Refusal) → Outcome b x t r → Answered b x t r
said b x t (Ok report) a = (a.fits, a.report ∙ ap (λ s. cond x.aresetn s no_report) (is_report b x))
said b x t (Err e) o = o
