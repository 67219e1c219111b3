-- One edge of the player is one edge of the machine.
use Rattle.std.proofs.Common.{◌≡◌, ℕ, true, cond, List, None, Option, sym, refl, ap, ◌∙◌, subst}
use Rattle.axi.specs.Checks.{refused_inputs}
use Rattle.axi.specs.declared.wires.Inputs as inputs
use Rattle.axi.specs.declared.wires.Outputs as outputs
use Rattle.engines.specs.Inputs.{inputs_view}
use Rattle.bridge.specs.Machines.{outputs_view, after_edge, told, shown_by, seen}
use Rattle.engines.specs.Protocol.{pieces}
use Rattle.bridge.specs.Reports.{report_of, no_report}
use Rattle.bridge.specs.declared.bridge.Bridge.{Bridge}
use Rattle.bridge.specs.declared.report.Report.{Report}
use Rattle.ledgers.specs.Ledgers.{crossing}
use Rattle.ledgers.specs.Wires as wires
use Rattle.playback.proofs.Order.{told_in_order}
use Rattle.transcript.specs.Crossings.{there, edge_crossings}
use Rattle.playback.specs.Entries.{Stock, driven, left_after}
use Rattle.playback.specs.Runs.{in_order, CrossedOver}
use Rattle.transcript.specs.declared.crossing.Crossing.{Crossing}

-- ARESETn is high on every edge
pub never_resets : (e : Stock) (gate : ℕ) → (driven e gate).aresetn ≡ true
unfolding driven
never_resets e gate = refl

module _ (b t : Bridge) (e f : Stock) (x : inputs.Inputs) (o : outputs.Outputs) (report : Report) (cs : List (Option Crossing)) where
  crossed_over : x.aresetn ≡ true → outputs_view b.plan o ≡ shown_by b → refused_inputs b.plan x ≡ None → report ≡ told b x → seen b.plan t ≡ after_edge b x → f ≡ left_after e report.crossed → cs ≡ edge_crossings report x o → CrossedOver b t e f x cs
  crossed_over high shown fits is moved left crossings =
      let p = b.plan in
      let v = inputs_view p x in
      let r : report ≡ report_of p v (shown_by b) = is ∙ ap (λ z. cond z (report_of p v (shown_by b)) no_report) high in
      let q : report ≡ report_of p v (outputs_view p o) = r ∙ ap (report_of p v) (sym shown) in
      record {
        fits = fits;
        crossings = ap there crossings ∙ ap (λ (z : Report). there (edge_crossings z x o)) q ∙ told_in_order p x o ∙ ap (λ (z : wires.Outputs (pieces p)). in_order p (crossing (pieces p) v z)) shown;
        state = moved;
        left = left ∙ ap (λ (z : Report). left_after e z.crossed) r;
      }

  pub stepped : (gate : ℕ) → x ≡ driven e gate → outputs_view b.plan o ≡ shown_by b → refused_inputs b.plan x ≡ None → report ≡ told b x → seen b.plan t ≡ after_edge b x → f ≡ left_after e report.crossed → cs ≡ edge_crossings report x o → CrossedOver b t e f (driven e gate) cs
  stepped gate by shown fits is moved left crossings =
      subst (λ (z : inputs.Inputs). CrossedOver b t e f z cs) by
      (crossed_over (ap (λ (z : inputs.Inputs). z.aresetn) by ∙ never_resets e gate) shown fits is moved left crossings)
