-- What crosses on an edge, and its lines in a transcript.
use Rattle.std.specs.Prelude.{ℕ, List, [], ◌∷◌, ◌++◌, Some, None, codes, Option}
use Rattle.std.specs.List.{flat_map}
use Rattle.axi.specs.Codes.{code_number}
use Rattle.axi.specs.Verdicts.{verdict_number}
use Rattle.axi.specs.declared.verdict.Verdict.{Verdict}
use Rattle.axi.specs.declared.verdict.Verdict.TheVariants.{Forwarded}
use Rattle.axi.specs.declared.wires.Inputs.{Inputs}
use Rattle.axi.specs.declared.wires.Outputs.{Outputs}
use Rattle.engines.specs.Queues.{when}
use Rattle.bridge.specs.declared.report.Report.{Report}
use Rattle.bridge.specs.declared.report.Verdicts.{Verdicts}
use Rattle.ledgers.specs.Lists.{one_if}
use Rattle.transcript.specs.Printing.{numeral, row, spaced}
use Rattle.transcript.specs.Printing.Base.{Hex}
use Rattle.transcript.specs.declared.crossing.Crossing.{Crossing}
use Rattle.transcript.specs.declared.crossing.Crossing.TheVariants.{Aw, W, B, Ar, R, Law, Lw, Lb, Lar, Lr}

-- the words of the channels
abbrev pub channel : Crossing → List ℕ
channel (Aw t) = codes "AW"
channel (W w) = codes "W"
channel (B b) = codes "B"
channel (Ar t) = codes "AR"
channel (R r) = codes "R"
channel (Law a) = codes "LAW"
channel (Lw w) = codes "LW"
channel (Lb c) = codes "LB"
channel (Lar a) = codes "LAR"
channel (Lr r) = codes "LR"

-- AW and AR: ID and verdict; W and LW: data and strobes; B: ID and code; R: ID, data, code and LAST; LAW and LAR: address and PROT;
-- LB: code; LR: data and code
abbrev pub fields : Crossing → List ℕ
fields (Aw t) = t.burst.id ∷ verdict_number t.verdict ∷ []
fields (W w) = w.wdata ∷ w.wstrb ∷ []
fields (B b) = b.id ∷ code_number b.code ∷ []
fields (Ar t) = t.burst.id ∷ verdict_number t.verdict ∷ []
fields (R r) = r.id ∷ r.rdata ∷ code_number r.code ∷ one_if r.last ∷ []
fields (Law a) = a.addr ∷ a.prot ∷ []
fields (Lw w) = w.wdata ∷ w.wstrb ∷ []
fields (Lb c) = c ∷ []
fields (Lar a) = a.addr ∷ a.prot ∷ []
fields (Lr r) = r.lrdata ∷ r.lrresp ∷ []

-- a crossing without its edge: the channel and the fields
abbrev pub crossing_text : Crossing → List ℕ
crossing_text c = channel c ++ spaced Hex (fields c)

-- the line of a crossing: the edge, the channel and the fields
abbrev pub entry_line : ℕ → Crossing → List ℕ
entry_line edge c = numeral Hex edge ++ (32 ∷ (channel c ++ (32 ∷ row Hex (fields c))))

-- the verdict on a burst that is taken
abbrev pub verdict_told : Option Verdicts → Verdict
verdict_told (Some v) = v.verdict
verdict_told None = Forwarded

-- what crosses on an edge, channel by channel, by its report
abbrev pub edge_crossings : Report → Inputs → Outputs → List (Option Crossing)
edge_crossings t x o =
    when t.crossed.aw (Aw (record { burst = x.aw; verdict = verdict_told t.write }))
    ∷ when t.crossed.w (W x.w)
    ∷ when t.crossed.b (B o.b)
    ∷ when t.crossed.ar (Ar (record { burst = x.ar; verdict = verdict_told t.read }))
    ∷ when t.crossed.r (R o.r)
    ∷ when t.crossed.law (Law o.law)
    ∷ when t.crossed.lw (Lw o.lw)
    ∷ when t.crossed.lb (Lb x.lbresp)
    ∷ when t.crossed.lar (Lar o.lar)
    ∷ when t.crossed.lr (Lr x.lr)
    ∷ []

-- those that are there
abbrev pub there : List (Option Crossing) → List Crossing
there [] = []
there (None ∷ cs) = there cs
there (Some c ∷ cs) = c ∷ there cs

-- the lines of an edge
abbrev pub edge_lines : ℕ → List (Option Crossing) → List ℕ
edge_lines edge cs = flat_map (entry_line edge) (there cs)
