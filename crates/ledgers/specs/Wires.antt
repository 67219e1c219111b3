-- The wires of the bridge, the calls that are made on it, and what a machine is that stands for it. The channels of the AXI4 master are
-- AW, W, B, AR and R, those of the AXI4-Lite block LAW, LW, LB, LAR and LR. A wire is named in lower case; a channel's payload is named
-- as the channel.
use Rattle.std.specs.Prelude.{Bool, cond, ◌&&◌, ◌||◌, List, [], ◌∷◌, ℕ}
use Rattle.ledgers.specs.Pieces.{Pieces}

-- what the master and the block drive
pub record Inputs (K : Pieces) : Type 0 where
  pub aresetn : Bool
  pub awvalid : Bool
  pub aw : K.Raw
  pub wvalid : Bool
  pub w : K.Beat
  pub bready : Bool
  pub arvalid : Bool
  pub ar : K.Raw
  pub rready : Bool
  pub lawready : Bool
  pub lwready : Bool
  pub lbvalid : Bool
  pub lb : K.WriteCode
  pub larready : Bool
  pub lrvalid : Bool
  pub lr : K.ReadCode

-- what the bridge drives
pub record Outputs (K : Pieces) : Type 0 where
  pub awready : Bool
  pub wready : Bool
  pub bvalid : Bool
  pub b : K.Ans
  pub arready : Bool
  pub rvalid : Bool
  pub r : K.Got
  pub lawvalid : Bool
  pub law : K.At
  pub lwvalid : Bool
  pub lw : K.Lane
  pub lbready : Bool
  pub larvalid : Bool
  pub lar : K.At
  pub lrready : Bool

-- a machine: its states, the state it is made in, the wires it drives in a state, the state after a clock edge that is not refused and
-- has ARESETn high, and how many write and read bursts it has taken and not yet answered
pub record Machine (K : Pieces) : Type 1 where
  pub State : Type 0
  pub made : State
  pub shown : State → Outputs K
  pub step : State → Inputs K → State
  pub writes_owed : State → ℕ
  pub reads_owed : State → ℕ

-- a call on the bridge: a clock edge with these inputs, a question for its wires, or a question for what it owes
pub data Call (K : Pieces) : Type 0 where
  edge : Inputs K → Call K
  ask_wires : Call K
  ask_owed : Call K

-- a VALID of the master or of the block is high over a field too large for its wires
abbrev pub bad_inputs : (K : Pieces) → Inputs K → Bool
bad_inputs K x =
    (x.awvalid && K.bad_burst x.aw)
    || (x.wvalid && K.bad_beat x.w)
    || (x.arvalid && K.bad_burst x.ar)
    || (x.lbvalid && K.bad_wcode x.lb)
    || (x.lrvalid && K.bad_rcode x.lr)

-- an edge is refused if ARESETn is high and the inputs are bad
abbrev pub refused_edge : (K : Pieces) → Inputs K → Bool
refused_edge K x = x.aresetn && bad_inputs K x

-- the state after a call: a refused edge and a question leave it, an edge with ARESETn low makes the machine anew
abbrev pub after : (K : Pieces) (M : Machine K) → M.State → Call K → M.State
after K M s (edge x) = cond (refused_edge K x) s (cond x.aresetn (M.step s x) M.made)
after K M s ask_wires = s
after K M s ask_owed = s

-- the state after a run; a run is the list of its calls, the latest first
abbrev pub state : (K : Pieces) (M : Machine K) → List (Call K) → M.State
state K M [] = M.made
state K M (c ∷ run) = after K M (state K M run) c
