-- The ten ledgers, one for each channel, and what feeds them: every payload that has crossed since the making or the latest reset, the
-- oldest first.
use Rattle.std.specs.Prelude.{cond, ◌&&◌, List, [], ◌∷◌, ◌++◌}
use Rattle.ledgers.specs.Pieces.{Pieces}
use Rattle.ledgers.specs.Lists.{just_if}
use Rattle.ledgers.specs.Wires.{Inputs, Outputs, Machine, Call, refused_edge, state}
use Rattle.ledgers.specs.Wires.Call.{edge, ask_wires, ask_owed}

-- one ledger for each channel; bursts are listed as judged
pub record Ledgers (K : Pieces) : Type 0 where
  pub AW : List K.Burst
  pub W : List K.Beat
  pub B : List K.Ans
  pub AR : List K.Burst
  pub R : List K.Got
  pub LAW : List K.At
  pub LW : List K.Lane
  pub LB : List K.WriteCode
  pub LAR : List K.At
  pub LR : List K.ReadCode

-- nothing has crossed
abbrev pub blank : (K : Pieces) → Ledgers K
blank K = record { AW = []; W = []; B = []; AR = []; R = []; LAW = []; LW = []; LB = []; LAR = []; LR = [] }

-- what crosses at an edge with inputs x and outputs o: on each channel its payload, if VALID and READY are both high
abbrev pub crossing : (K : Pieces) → Inputs K → Outputs K → Ledgers K
crossing K x o = record {
  AW = just_if (x.awvalid && o.awready) (K.judge x.aw);
  W = just_if (x.wvalid && o.wready) x.w;
  B = just_if (o.bvalid && x.bready) o.b;
  AR = just_if (x.arvalid && o.arready) (K.judge x.ar);
  R = just_if (o.rvalid && x.rready) o.r;
  LAW = just_if (o.lawvalid && x.lawready) o.law;
  LW = just_if (o.lwvalid && x.lwready) o.lw;
  LB = just_if (x.lbvalid && o.lbready) x.lb;
  LAR = just_if (o.larvalid && x.larready) o.lar;
  LR = just_if (x.lrvalid && o.lrready) x.lr;
}

-- the entries of l and then those of c, ledger by ledger
abbrev pub extend : (K : Pieces) → Ledgers K → Ledgers K → Ledgers K
extend K l c = record {
  AW = l.AW ++ c.AW;
  W = l.W ++ c.W;
  B = l.B ++ c.B;
  AR = l.AR ++ c.AR;
  R = l.R ++ c.R;
  LAW = l.LAW ++ c.LAW;
  LW = l.LW ++ c.LW;
  LB = l.LB ++ c.LB;
  LAR = l.LAR ++ c.LAR;
  LR = l.LR ++ c.LR;
}

-- the ledgers after a call, given the wires that the bridge drove before it: a refused edge and a question leave them, a reset empties them
abbrev pub feed : (K : Pieces) → Ledgers K → Call K → Outputs K → Ledgers K
feed K l (edge x) o = cond (refused_edge K x) l (cond x.aresetn (extend K l (crossing K x o)) (blank K))
feed K l ask_wires o = l
feed K l ask_owed o = l

-- the ledgers after a run, the latest call first
abbrev pub ledgers : (K : Pieces) → Machine K → List (Call K) → Ledgers K
ledgers K M [] = blank K
ledgers K M (c ∷ run) = feed K (ledgers K M run) c (M.shown (state K M run))
