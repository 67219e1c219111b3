-- A fault's line and place point into the script.
use Rattle.std.proofs.Common.{◌≡◌, ℕ, ◌+◌, List, [], ◌∷◌, Some, None, Ok, Err, Option, Result, refl, arith}
use Rattle.std.specs.List.{AllByRecursion}
use Rattle.axi.specs.Checks.{refused_inputs}
use Rattle.axi.specs.declared.plan.Plan.{Plan}
use Rattle.axi.specs.declared.plan.PlanRefusal.{PlanRefusal}
use Rattle.axi.specs.declared.wires.Refusal.{Refusal}
use Rattle.bridge.specs.Edges.{Settings}
use Rattle.engines.specs.Protocol.{pieces, joining}
use Rattle.ledgers.specs.OneByOne.{made}
use Rattle.script.proofs.Pointing.{Pointed, script_points}
use Rattle.script.specs.Scripts.{Contents, script}
use Rattle.sections.specs.Values.{GateAt}
use Rattle.words.specs.declared.fault.Fault as script_fault
use Rattle.playback.proofs.Gates.{IsGateAt, GatesAt, gates_at, gate_inside}
use Rattle.playback.specs.Entries.{Stock, driven}
use Rattle.playback.specs.Laws.{EndsIn}
use Rattle.playback.specs.Runs.{Played, StateOf, unless, ended_at, state_after, stock_after, played}
use Rattle.playback.specs.Transcripts.{performed, planned, by_reading, by_plan, four_slots}

-- a refused edge is placed at its gate's word; else what follows decides
edge_ends : (s : List ℕ) (g : GateAt) (q : Played) (o : Option Refusal) → IsGateAt s g → EndsIn s q.ending → EndsIn s (unless o (ended_at s g.place) q).ending
edge_ends s g q None at more = more
edge_ends s g q (Some r) at more = record { place = gate_inside s g.place at; line = refl; word = at }

gates_end : (σ : Settings) (s : List ℕ) (m : StateOf σ) (e : Stock) (n : ℕ) (gs : List GateAt) → AllByRecursion (IsGateAt s) gs → EndsIn s (played σ s m e n gs).ending
unfolding played
gates_end σ s m e n [] at = tt
gates_end σ s m e n (g ∷ gs) at =
    let x = driven e g.bits in
    edge_ends s g _ (refused_inputs σ.plan x) at.0 (gates_end σ s (state_after σ m x) (stock_after σ m e x) (n + 1) gs at.1)

plan_ends : (s : List ℕ) (c : Contents) (r : Result Plan PlanRefusal) → GatesAt s c.gates → EndsIn s (by_plan s c r).ending
plan_ends s c (Ok p) at = gates_end (four_slots p) s (made (pieces p) (joining p)) (record { master = c.master; block = c.block }) 0 c.gates at.1
plan_ends s c (Err e) at = record { place = omega arith; line = refl; word = refl }

reading_ends : (s : List ℕ) (r : Result Contents script_fault.Fault) → script s ≡ r → Pointed s r → EndsIn s (by_reading s r).ending
reading_ends s (Ok c) e h = plan_ends s c (planned c) (gates_at s c e)
reading_ends s (Err f) e h = record { place = h.0; line = h.1; word = tt }

pub ends_in : (s : List ℕ) → EndsIn s (performed s).ending
ends_in s = reading_ends s (script s) refl (script_points s)
