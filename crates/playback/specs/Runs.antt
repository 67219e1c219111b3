-- Playing: one edge for each gate.
use Rattle.std.specs.Prelude.{◌≡◌, ℕ, ◌+◌, List, [], ◌∷◌, ◌++◌, map, Some, None, Ok, Err, Option, Result}
use Rattle.std.specs.List.{flat_map}
use Rattle.axi.specs.Checks.{refused_inputs}
use Rattle.axi.specs.declared.plan.Plan.{Plan}
use Rattle.axi.specs.declared.wires.Inputs as declared
use Rattle.axi.specs.declared.wires.Refusal.{Refusal}
use Rattle.bridge.specs.Edges.{Settings, settings}
use Rattle.engines.specs.Inputs.{inputs_view}
use Rattle.bridge.specs.Machines.{slots, seen}
use Rattle.engines.specs.Protocol.{pieces, joining}
use Rattle.bridge.specs.Reports.{crossed}
use Rattle.bridge.specs.declared.bridge.Bridge.{Bridge}
use Rattle.ledgers.specs.Ledgers.{Ledgers, crossing}
use Rattle.ledgers.specs.OneByOne.{State, one_by_one}
use Rattle.ledgers.specs.Wires.{Machine, Outputs, after}
use Rattle.ledgers.specs.Wires.Call.{edge}
use Rattle.words.specs.Faults.{line_at}
use Rattle.sections.specs.Values.{GateAt}
use Rattle.transcript.specs.Crossings.{entry_line, there}
use Rattle.transcript.specs.Endings.{Ending, ending_line}
use Rattle.playback.specs.Entries.{Stock, driven, left_after}
use Rattle.transcript.specs.Faults.{of_edge, placed}
use Rattle.transcript.specs.declared.crossing.Crossing.{Crossing}
use Rattle.transcript.specs.declared.crossing.Crossing.TheVariants.{Aw, W, B, Ar, R, Law, Lw, Lb, Lar, Lr}
use Rattle.transcript.specs.declared.fault.PlayerFault.{PlayerFault}

-- a line of the transcript: the number of the edge, and what crossed
pub record Line : Type 0 where
  pub edge : ℕ
  pub crossing : Crossing

-- what a playing gives: the lines, and how it ends
pub record Played : Type 0 where
  pub lines : List Line
  pub ending : Ending

abbrev pub line_bytes : Line → List ℕ
line_bytes l = entry_line l.edge l.crossing

abbrev pub lines_bytes : List Line → List ℕ
lines_bytes ls = flat_map line_bytes ls

abbrev pub played_bytes : Played → List ℕ
played_bytes p = lines_bytes p.lines ++ ending_line p.ending

-- what crosses on an edge, in the order of the transcript
abbrev pub in_order : (p : Plan) → Ledgers (pieces p) → List Crossing
in_order p l =
    map Aw l.AW
    ++ (map W l.W
    ++ (map B l.B
    ++ (map Ar l.AR
    ++ (map R l.R
    ++ (map Law l.LAW
    ++ (map Lw l.LW
    ++ (map Lb l.LB
    ++ (map Lar l.LAR
    ++ map Lr l.LR))))))))

-- the machine of a plan and its slots, and its states
abbrev pub machine_of : (σ : Settings) → Machine (pieces σ.plan)
machine_of σ = one_by_one (pieces σ.plan) (joining σ.plan) (slots σ)

abbrev pub StateOf : Settings → Type 0
StateOf σ = State (pieces σ.plan) (joining σ.plan)

abbrev pub wires_in : (σ : Settings) → StateOf σ → Outputs (pieces σ.plan)
wires_in σ m = (machine_of σ).shown m

-- what an edge with these wires does: the state after it, what crosses, and the entries left
abbrev pub state_after : (σ : Settings) → StateOf σ → declared.Inputs → StateOf σ
state_after σ m x = after (pieces σ.plan) (machine_of σ) m (edge (inputs_view σ.plan x))

abbrev pub crossing_on : (σ : Settings) → StateOf σ → declared.Inputs → List Crossing
crossing_on σ m x = in_order σ.plan (crossing (pieces σ.plan) (inputs_view σ.plan x) (wires_in σ m))

abbrev pub stock_after : (σ : Settings) → StateOf σ → Stock → declared.Inputs → Stock
stock_after σ m e x = left_after e (crossed σ.plan (inputs_view σ.plan x) (wires_in σ m))

-- the lines of an edge
abbrev pub numbered : ℕ → List Crossing → List Line
numbered n cs = map (λ c. record { edge = n; crossing = c }) cs

-- a refused edge ends the playing, at its gate's word
abbrev pub refused_at : List ℕ → ℕ → Refusal → PlayerFault
refused_at s place e = placed (of_edge e) (line_at s place) place

abbrev pub ended_at : List ℕ → ℕ → Refusal → Played
ended_at s place e = record { lines = []; ending = Err (refused_at s place e) }

abbrev pub preceded : List Line → Played → Played
preceded ls p = record { lines = ls ++ p.lines; ending = p.ending }

abbrev pub unless : Option Refusal → (Refusal → Played) → Played → Played
unless None refused more = more
unless (Some e) refused more = refused e

-- the gates that are left, in the script s: from a state, with these entries, from edge n on
unfoldable pub played : (σ : Settings) → List ℕ → StateOf σ → Stock → ℕ → List GateAt → Played
played σ s m e n [] = record { lines = []; ending = Ok (record { writes = (machine_of σ).writes_owed m; reads = (machine_of σ).reads_owed m }) }
played σ s m e n (g ∷ gs) =
    let x = driven e g.bits in
    unless (refused_inputs σ.plan x) (ended_at s g.place)
    (preceded (numbered n (crossing_on σ m x)) (played σ s (state_after σ m x) (stock_after σ m e x) (n + 1) gs))

-- an edge with wires x from bridge b to bridge t, from entries e to entries f
pub record CrossedOver (b t : Bridge) (e f : Stock) (x : declared.Inputs) (cs : List (Option Crossing)) : Type 0 where
  pub fits : refused_inputs b.plan x ≡ None
  pub crossings : there cs ≡ crossing_on (settings b) (seen b.plan b) x
  pub state : seen b.plan t ≡ state_after (settings b) (seen b.plan b) x
  pub left : f ≡ stock_after (settings b) (seen b.plan b) e x

abbrev pub Stepped : Bridge → Bridge → Stock → Stock → ℕ → Result (List (Option Crossing)) Refusal → Type 0
Stepped b t e f gate (Ok cs) = CrossedOver b t e f (driven e gate) cs
Stepped b t e f gate (Err r) = refused_inputs b.plan (driven e gate) ≡ Some r

-- the gates that are left, from a bridge and its entries
abbrev pub playing : Bridge → Stock → List ℕ → ℕ → List GateAt → Played
playing b e s n gs = played (settings b) s (seen b.plan b) e n gs

-- the lines of a playing are appended, and it ends so
pub record Ran (p : Played) (before after : List ℕ) (end : Ending) : Type 0 where
  pub bytes : after ≡ before ++ lines_bytes p.lines
  pub ending : end ≡ p.ending
