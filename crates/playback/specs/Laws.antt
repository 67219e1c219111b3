-- What holds of every transcript.
use Rattle.std.specs.Prelude.{◌≡◌, ℕ, ◌≤◌, List, [], ◌∷◌, map, length, Some, None, Ok, Err, Option}
use Rattle.axi.specs.Checks.{refused_inputs}
use Rattle.axi.specs.declared.wires.Beat.{Beat}
use Rattle.axi.specs.declared.wires.Place.{Place}
use Rattle.axi.specs.declared.plan.Plan as plans
use Rattle.axi.specs.declared.wires.Inputs as declared
use Rattle.axi.specs.declared.wires.LowerRead.{LowerRead}
use Rattle.axi.specs.declared.wires.ReadBeat.{ReadBeat}
use Rattle.axi.specs.declared.wires.Refusal.{Refusal}
use Rattle.axi.specs.declared.wires.WriteAnswer.{WriteAnswer}
use Rattle.bridge.specs.Edges.{Settings}
use Rattle.engines.specs.Inputs.{inputs_view}
use Rattle.engines.specs.Protocol.{pieces, joining}
use Rattle.engines.specs.declared.taken.Taken.{Taken}
use Rattle.ledgers.specs.Ledgers.{Ledgers, blank, extend, ledgers}
use Rattle.ledgers.specs.OneByOne.{made}
use Rattle.ledgers.specs.Promise.{KeepsPromise}
use Rattle.ledgers.specs.Wires.{Call}
use Rattle.ledgers.specs.Wires.Call.{edge}
use Rattle.words.specs.Faults.{line_at}
use Rattle.words.specs.Reading.Read.{got}
use Rattle.script.specs.Scripts.{Contents, script}
use Rattle.sections.specs.Values.{GateAt}
use Rattle.words.specs.Words.{number}
use Rattle.words.specs.declared.carrier.Carrier.TheVariants.{Bits10}
use Rattle.playback.specs.Entries.{Stock, driven}
use Rattle.transcript.specs.Faults.{fault_line, fault_place}
use Rattle.playback.specs.Runs.{Line, Played, StateOf, machine_of, state_after, stock_after}
use Rattle.playback.specs.Transcripts.{performed, planned, four_slots}
use Rattle.transcript.specs.declared.crossing.Crossing.{Crossing}
use Rattle.transcript.specs.declared.crossing.Crossing.TheVariants.{Aw, W, B, Ar, R, Law, Lw, Lb, Lar, Lr}
use Rattle.transcript.specs.Endings.{Ending}
use Rattle.transcript.specs.declared.fault.PlayerFault.{PlayerFault}
use Rattle.transcript.specs.declared.fault.Cause.{Cause}
use Rattle.transcript.specs.declared.fault.Cause.TheVariants.{Script, Bridge}
use Rattle.transcript.specs.declared.fault.Refused.{Refused}
use Rattle.transcript.specs.declared.fault.Refused.TheVariants.{Plan, Edge}

-- the word of a gate stands at this place
abbrev pub GateWord : List ℕ → ℕ → Type 0
GateWord s place = (bits : ℕ) × (after : ℕ) × (number Bits10 s place ≡ got bits after)

-- a refused plan is placed at the script's first byte, a refused edge at its gate's word
abbrev pub RefusedAt : List ℕ → Refused → ℕ → Type 0
RefusedAt s (Plan e) place = place ≡ 0
RefusedAt s (Edge e) place = GateWord s place

abbrev pub CausedAt : List ℕ → Cause → ℕ → Type 0
CausedAt s (Script w) place = Unit {0}
CausedAt s (Bridge e) place = RefusedAt s e place

abbrev pub PlacedAt : List ℕ → PlayerFault → Type 0
PlacedAt s f = CausedAt s f.cause f.place

-- a fault's place is a byte of the script or its end, and its line is 1 + the line ends before that
pub record Points (s : List ℕ) (f : PlayerFault) : Type 0 where
  pub place : fault_place f ≤ length s
  pub line : fault_line f ≡ line_at s (fault_place f)
  pub word : PlacedAt s f

abbrev pub EndsIn : List ℕ → Ending → Type 0
EndsIn s (Ok o) = Unit {0}
EndsIn s (Err f) = Points s f

-- a ledger for each channel
abbrev pub ten : (p : plans.Plan) → List Taken → List Beat → List WriteAnswer → List Taken → List ReadBeat → List Place → List Beat → List ℕ → List Place → List LowerRead → Ledgers (pieces p)
ten p aw w b ar r law lw lb lar lr = record { AW = aw; W = w; B = b; AR = ar; R = r; LAW = law; LW = lw; LB = lb; LAR = lar; LR = lr }

-- what crossed, in the ledger of its channel
abbrev pub alone : (p : plans.Plan) → Crossing → Ledgers (pieces p)
alone p (Aw t) = ten p (t ∷ []) [] [] [] [] [] [] [] [] []
alone p (W w) = ten p [] (w ∷ []) [] [] [] [] [] [] [] []
alone p (B b) = ten p [] [] (b ∷ []) [] [] [] [] [] [] []
alone p (Ar t) = ten p [] [] [] (t ∷ []) [] [] [] [] [] []
alone p (R r) = ten p [] [] [] [] (r ∷ []) [] [] [] [] []
alone p (Law a) = ten p [] [] [] [] [] (a ∷ []) [] [] [] []
alone p (Lw w) = ten p [] [] [] [] [] [] (w ∷ []) [] [] []
alone p (Lb c) = ten p [] [] [] [] [] [] [] (c ∷ []) [] []
alone p (Lar a) = ten p [] [] [] [] [] [] [] [] (a ∷ []) []
alone p (Lr r) = ten p [] [] [] [] [] [] [] [] [] (r ∷ [])

-- the lines of each channel, in their order
abbrev pub sorted : (p : plans.Plan) → List Crossing → Ledgers (pieces p)
sorted p [] = blank (pieces p)
sorted p (c ∷ cs) = extend (pieces p) (alone p c) (sorted p cs)

abbrev pub channels : (p : plans.Plan) → Played → Ledgers (pieces p)
channels p q = sorted p (map (λ (l : Line). l.crossing) q.lines)

-- an edge as a call on the machine
abbrev pub call_of : (σ : Settings) → declared.Inputs → Call (pieces σ.plan)
call_of σ x = edge (inputs_view σ.plan x)

abbrev pub last_if : {X : Type 0} → Option Refusal → X → X → X
last_if None last more = more
last_if (Some e) last more = last

-- the calls of a playing after those of a run, the latest first; the refused one is the last
unfoldable pub called : (σ : Settings) → StateOf σ → Stock → List GateAt → List (Call (pieces σ.plan)) → List (Call (pieces σ.plan))
called σ m e [] run = run
called σ m e (g ∷ gs) run =
    let x = driven e g.bits in
    last_if (refused_inputs σ.plan x) (call_of σ x ∷ run) (called σ (state_after σ m x) (stock_after σ m e x) gs (call_of σ x ∷ run))

-- the calls that a script with these contents makes on the bridge of the plan
abbrev pub calls : Contents → (p : plans.Plan) → List (Call (pieces p))
calls c p = called (four_slots p) (made (pieces p) (joining p)) (record { master = c.master; block = c.block }) c.gates []

-- the lines of a channel are that channel's ledger after the calls, and those keep the promise
pub record KeptLedgers (s : List ℕ) (c : Contents) (p : plans.Plan) : Type 0 where
  pub lines : channels p (performed s) ≡ ledgers (pieces p) (machine_of (four_slots p)) (calls c p)
  pub promise : KeepsPromise (pieces p) (machine_of (four_slots p)) (calls c p)

abbrev pub LinesAreLedgers : List ℕ → Type 0
LinesAreLedgers s = (c : Contents) (p : plans.Plan) → script s ≡ Ok c → planned c ≡ Ok p → KeptLedgers s c p
