-- The lines of a playing are the ledgers of its calls.
use Rattle.std.proofs.Common.{◌≡◌, ℕ, ◌+◌, Bool, true, cond, List, [], ◌∷◌, ◌++◌, map, is_some, Some, None, Ok, Option, sym, refl, ap, ◌∙◌}
use mathlib.Core.List.{map-append}
use Rattle.axi.specs.Checks.{refused_inputs}
use Rattle.axi.specs.declared.plan.Plan.{Plan}
use Rattle.axi.specs.declared.wires.Inputs as inputs
use Rattle.axi.specs.declared.wires.Refusal.{Refusal}
use Rattle.bridge.proofs.Lawful.{lawful}
use Rattle.bridge.proofs.Steps.{is_refused}
use Rattle.bridge.specs.Edges.{Settings}
use Rattle.engines.specs.Inputs.{inputs_view}
use Rattle.bridge.specs.Machines.{slots}
use Rattle.engines.specs.Protocol.{pieces}
use Rattle.ledgers.proofs.OneByOneStands.{one_by_one_stands}
use Rattle.ledgers.specs.Ledgers.{Ledgers, blank, extend, crossing, ledgers}
use Rattle.ledgers.specs.Wires.{Call, state}
use Rattle.script.specs.Scripts.{Contents, script}
use Rattle.sections.specs.Values.{GateAt}
use Rattle.playback.proofs.Sorted.{extend_blank, extend_assoc, sorted_append, sorted_crossing}
use Rattle.playback.proofs.Stepping.{never_resets}
use Rattle.playback.specs.Entries.{Stock, driven}
use Rattle.playback.specs.Laws.{sorted, channels, call_of, last_if, called, calls, KeptLedgers}
use Rattle.playback.specs.Runs.{Line, Played, numbered, preceded, unless, ended_at, machine_of, wires_in, crossing_on, stock_after, played}
use Rattle.playback.specs.Transcripts.{performed, planned, by_reading, by_plan, four_slots}
use Rattle.transcript.specs.declared.crossing.Crossing.{Crossing}

unnumbered : (n : ℕ) (cs : List Crossing) → map (λ (l : Line). l.crossing) (numbered n cs) ≡ cs
unnumbered n [] = refl
unnumbered n (c ∷ cs) = ap (λ (z : List Crossing). c ∷ z) (unnumbered n cs)

-- the ledgers after one more edge
fed : (σ : Settings) (run : List (Call (pieces σ.plan))) (x : inputs.Inputs) → x.aresetn ≡ true → refused_inputs σ.plan x ≡ None → extend (pieces σ.plan) (ledgers (pieces σ.plan) (machine_of σ) run) (crossing (pieces σ.plan) (inputs_view σ.plan x) (wires_in σ (state (pieces σ.plan) (machine_of σ) run))) ≡ ledgers (pieces σ.plan) (machine_of σ) (call_of σ x ∷ run)
fed σ run x high fits =
    let K = pieces σ.plan in
    let l = ledgers K (machine_of σ) run in
    let c = crossing K (inputs_view σ.plan x) (wires_in σ (state K (machine_of σ) run)) in
    sym
    (ap (λ (b : Bool). cond b l (cond x.aresetn (extend K l c) (blank K))) (is_refused σ.plan x ∙ ap is_some fits)
    ∙ ap (λ (b : Bool). cond b (extend K l c) (blank K)) high)

-- a refused edge leaves them
unfed : (σ : Settings) (run : List (Call (pieces σ.plan))) (x : inputs.Inputs) (r : Refusal) → refused_inputs σ.plan x ≡ Some r → ledgers (pieces σ.plan) (machine_of σ) run ≡ ledgers (pieces σ.plan) (machine_of σ) (call_of σ x ∷ run)
unfed σ run x r refused =
    let K = pieces σ.plan in
    let l = ledgers K (machine_of σ) run in
    let c = crossing K (inputs_view σ.plan x) (wires_in σ (state K (machine_of σ) run)) in
    sym (ap (λ (b : Bool). cond b l (cond x.aresetn (extend K l c) (blank K))) (is_refused σ.plan x ∙ ap is_some refused))

-- the channels of a playing that lines precede
preceded_channels : (p : Plan) (n : ℕ) (cs : List Crossing) (q : Played) → channels p (preceded (numbered n cs) q) ≡ extend (pieces p) (sorted p cs) (channels p q)
preceded_channels p n cs q =
    let rest = map (λ (l : Line). l.crossing) q.lines in
    ap (sorted p) (map-append (λ (l : Line). l.crossing) (numbered n cs) q.lines ∙ ap (λ (z : List Crossing). z ++ rest) (unnumbered n cs))
    ∙ sorted_append p cs rest

module _ (σ : Settings) (s : List ℕ) where
  -- the ledgers of a run and what a playing adds to them
  abbrev On : List (Call (pieces σ.plan)) → Played → List (Call (pieces σ.plan)) → Type 0
  On run q longer = extend (pieces σ.plan) (ledgers (pieces σ.plan) (machine_of σ) run) (channels σ.plan q) ≡ ledgers (pieces σ.plan) (machine_of σ) longer

  -- one edge, refused or not
  on_edge : (run longer : List (Call (pieces σ.plan))) (e : Stock) (n : ℕ) (g : GateAt) (q : Played) (o : Option Refusal) → refused_inputs σ.plan (driven e g.bits) ≡ o → On (call_of σ (driven e g.bits) ∷ run) q longer → On run (unless o (ended_at s g.place) (preceded (numbered n (crossing_on σ (state (pieces σ.plan) (machine_of σ) run) (driven e g.bits))) q)) (last_if o (call_of σ (driven e g.bits) ∷ run) longer)
  on_edge run longer e n g q None fits more =
      let p = σ.plan in
      let K = pieces p in
      let x = driven e g.bits in
      let l = ledgers K (machine_of σ) run in
      let m = state K (machine_of σ) run in
      let c = crossing K (inputs_view p x) (wires_in σ m) in
      ap (extend K l) (preceded_channels p n (crossing_on σ m x) q ∙ ap (λ (z : Ledgers K). extend K z (channels p q)) (sorted_crossing p (inputs_view p x) (wires_in σ m)))
      ∙ sym (extend_assoc p l c (channels p q))
      ∙ ap (λ (z : Ledgers K). extend K z (channels p q)) (fed σ run x (never_resets e g.bits) fits)
      ∙ more
  on_edge run longer e n g q (Some r) refused more =
      extend_blank σ.plan (ledgers (pieces σ.plan) (machine_of σ) run) ∙ unfed σ run (driven e g.bits) r refused

  -- every gate that is left
  on_gates : (run : List (Call (pieces σ.plan))) (e : Stock) (n : ℕ) (gs : List GateAt) → On run (played σ s (state (pieces σ.plan) (machine_of σ) run) e n gs) (called σ (state (pieces σ.plan) (machine_of σ) run) e gs run)
  unfolding played called
  on_gates run e n [] = extend_blank σ.plan (ledgers (pieces σ.plan) (machine_of σ) run)
  on_gates run e n (g ∷ gs) =
      let x = driven e g.bits in
      let m = state (pieces σ.plan) (machine_of σ) run in
      on_edge run _ e n g _ (refused_inputs σ.plan x) refl (on_gates (call_of σ x ∷ run) (stock_after σ m e x) (n + 1) gs)

-- what is performed, where the script is read and there is such a plan
pub performed_is : (s : List ℕ) (c : Contents) (p : Plan) → script s ≡ Ok c → planned c ≡ Ok p → performed s ≡ by_plan s c (Ok p)
performed_is s c p read plan = ap (by_reading s) read ∙ ap (by_plan s c) plan

pub kept_ledgers : (s : List ℕ) (c : Contents) (p : Plan) → script s ≡ Ok c → planned c ≡ Ok p → KeptLedgers s c p
kept_ledgers s c p read plan = record {
  lines = ap (channels p) (performed_is s c p read plan) ∙ on_gates (four_slots p) s [] (record { master = c.master; block = c.block }) 0 c.gates;
  promise = one_by_one_stands (lawful p) (slots (four_slots p)) (calls c p);
}
