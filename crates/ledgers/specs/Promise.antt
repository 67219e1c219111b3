-- The promise of the bridge, over whole runs: what the ledgers, the wires and what is owed keep to after every run, whatever its calls.
use Rattle.std.specs.Prelude.{◌≡◌, Bool, true, false, not, ◌&&◌, ◌||◌, List, [], ◌∷◌, map, ℕ, ◌+◌, ◌≤◌, length}
use Rattle.ledgers.specs.Pieces.{Pieces}
use Rattle.ledgers.specs.Lists.{Begins}
use Rattle.ledgers.specs.Wires.{Inputs, Outputs, Machine, Call, refused_edge, state}
use Rattle.ledgers.specs.Wires.Call.{edge, ask_wires, ask_owed}
use Rattle.ledgers.specs.Ledgers.{Ledgers, ledgers}
use Rattle.ledgers.specs.Due.{due_parts, due_answers, all_places, due_rparts, due_beats, lasts}

-- the run before its latest call
abbrev pub earlier : {A : Type 0} → List A → List A
earlier [] = []
earlier (c ∷ run) = run

-- the latest call frees a channel, given by its READY: it is a reset, or an edge that is not refused with this READY high
abbrev pub frees : (K : Pieces) → (Inputs K → Bool) → List (Call K) → Bool
frees K ready [] = false
frees K ready (edge x ∷ run) = not x.aresetn || (not (refused_edge K x) && ready x)
frees K ready (ask_wires ∷ run) = false
frees K ready (ask_owed ∷ run) = false

-- a VALID and its payload before the latest call and after it: if it was high and was not freed, then it is high with the same payload
abbrev pub Stays : {A : Type 0} → Bool → Bool → A → Bool → A → Type 0
Stays freed v₀ p₀ v p = v₀ ≡ true → freed ≡ false → (v ≡ true) × (p ≡ p₀)

-- The promise for one run, given the ledgers before its latest call and now, the wires before that call and now, and the write and read
-- bursts owed now.
pub record Promise (K : Pieces) (run : List (Call K)) (was now : Ledgers K) (o₀ o : Outputs K) (writes reads : ℕ) : Type 0 where
  -- what crossed on LAW is a beginning of what the write parts that are due carry there
  pub law_due : Begins now.LAW (map K.at (due_parts K now.AW now.W))
  -- what crossed on LW is a beginning of what the write parts that are due carry there
  pub lw_due : Begins now.LW (map K.lane (due_parts K now.AW now.W))
  -- what crossed on LAR is a beginning of what the read parts that are due carry there
  pub lar_due : Begins now.LAR (map K.from (due_rparts K (all_places K now.AR)))
  -- no more crossed on LB than had crossed on LAW before the latest call
  pub lb_after_law : length now.LB ≤ length was.LAW
  -- no more crossed on LB than had crossed on LW before the latest call
  pub lb_after_lw : length now.LB ≤ length was.LW
  -- no more crossed on LR than had crossed on LAR before the latest call
  pub lr_after_lar : length now.LR ≤ length was.LAR
  -- what crossed on B is a beginning of the answers that were due before the latest call, each made of the responses to its burst's parts
  pub b_due : Begins now.B (due_answers K was.AW was.W was.LB)
  -- what crossed on R is a beginning of the read beats that were due before the latest call, each made of the answers to its parts
  pub r_due : Begins now.R (due_beats K (all_places K was.AR) was.LR)
  -- the bursts that crossed on AW are as many as the answers that crossed on B and the writes owed
  pub writes_count : length now.AW ≡ length now.B + writes
  -- the bursts that crossed on AR are as many as the beats with LAST that crossed on R and the reads owed
  pub reads_count : length now.AR ≡ lasts K now.R + reads
  -- if BVALID was high before the latest call and its answer did not cross, it is high with the same answer, unless the call was a reset
  pub b_stays : Stays (frees K (λ x. x.bready) run) o₀.bvalid o₀.b o.bvalid o.b
  -- the same of RVALID and its beat
  pub r_stays : Stays (frees K (λ x. x.rready) run) o₀.rvalid o₀.r o.rvalid o.r
  -- the same of LAWVALID and its payload
  pub law_stays : Stays (frees K (λ x. x.lawready) run) o₀.lawvalid o₀.law o.lawvalid o.law
  -- the same of LWVALID and its payload
  pub lw_stays : Stays (frees K (λ x. x.lwready) run) o₀.lwvalid o₀.lw o.lwvalid o.lw
  -- the same of LARVALID and its payload
  pub lar_stays : Stays (frees K (λ x. x.larready) run) o₀.larvalid o₀.lar o.larvalid o.lar

-- a machine keeps the promise for one run
abbrev pub KeepsPromise : (K : Pieces) → Machine K → List (Call K) → Type 0
KeepsPromise K M run =
    let s₀ = state K M (earlier run) in
    let s = state K M run in
    Promise K run (ledgers K M (earlier run)) (ledgers K M run) (M.shown s₀) (M.shown s) (M.writes_owed s) (M.reads_owed s)

-- a machine keeps the promise for every run
abbrev pub PromiseStands : (K : Pieces) → Machine K → Type 0
PromiseStands K M = (run : List (Call K)) → KeepsPromise K M run

-- The law on one call, from a state s to a state t: whatever run led to s, the run with this call leads to t and keeps the promise.
abbrev pub Kept : (K : Pieces) (M : Machine K) → M.State → Call K → M.State → Type 0
Kept K M s c t = (run : List (Call K)) → s ≡ state K M run → (t ≡ state K M (c ∷ run)) × KeepsPromise K M (c ∷ run)
