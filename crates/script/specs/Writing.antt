-- A script written out from its values.
use Rattle.std.specs.Prelude.{ℕ, ◌+◌, ◌^◌, ◌<◌, cond, List, [], ◌∷◌, ◌++◌, map, length, codes, ◌==◌, nat_lt}
use Rattle.axi.specs.declared.burst.Burst.{Burst}
use Rattle.axi.specs.declared.wires.Beat.{Beat}
use Rattle.axi.specs.declared.wires.LowerRead.{LowerRead}
use Rattle.std.specs.List.{flat_map, AllByRecursion}
use Rattle.std.specs.Int.Digits.{digits_of}
use Rattle.words.specs.Lines.{Fit}
use Rattle.script.specs.Scripts.{MasterEntries, BlockEntries, Contents}
use Rattle.sections.specs.Lines.{bridge_carriers, burst_carriers}
use Rattle.sections.specs.Values.{GateAt, beat_carriers, code_carriers, part_carriers, gate_carriers}
use Rattle.words.specs.declared.carrier.Carrier.{Carrier}

-- 0 to 9, a to f
abbrev pub digit_byte : ℕ → ℕ
digit_byte d = cond (nat_lt d 10) (d + 48) (d + 87)

-- a number without leading zeros; 0 is one digit
abbrev pub hex : ℕ → List ℕ
hex v = cond (v == 0) (48 ∷ []) (map digit_byte (digits_of 16 v))

-- a space before more numbers, a line end after the last
abbrev pub separator_to : List ℕ → ℕ
separator_to [] = 10
separator_to (v ∷ vs) = 32

abbrev pub line : List ℕ → List ℕ
line [] = []
line (v ∷ vs) = hex v ++ (separator_to vs ∷ line vs)

abbrev pub headed_line : List ℕ → List ℕ → List ℕ
headed_line keyword vs = keyword ++ (32 ∷ line vs)

-- a count line, and a line for each entry
abbrev pub section_lines : List ℕ → List (List ℕ) → List ℕ
section_lines keyword rows = headed_line keyword (length rows ∷ []) ++ flat_map line rows

-- the numbers of an entry
abbrev pub burst_row : Burst → List ℕ
burst_row b = b.id ∷ b.addr ∷ b.len ∷ b.size ∷ b.burst ∷ b.lock ∷ b.cache ∷ b.prot ∷ []

abbrev pub beat_row : Beat → List ℕ
beat_row b = b.wdata ∷ b.wstrb ∷ []

abbrev pub part_row : LowerRead → List ℕ
part_row p = p.lrdata ∷ p.lrresp ∷ []

abbrev pub number_row : ℕ → List ℕ
number_row n = n ∷ []

-- what a script says, wherever its words stand
pub record Values : Type 0 where
  pub upper : ℕ
  pub lower : ℕ
  pub level : ℕ
  pub master : MasterEntries
  pub block : BlockEntries
  pub gates : List ℕ

abbrev pub values_of : Contents → Values
values_of c = record { upper = c.upper; lower = c.lower; level = c.level; master = c.master; block = c.block; gates = map (λ (g : GateAt). g.bits) c.gates }

abbrev pub bridge_row : Values → List ℕ
bridge_row v = v.upper ∷ v.lower ∷ v.level ∷ []

abbrev pub master_lines : MasterEntries → List ℕ
master_lines m = section_lines (codes "writes") (map burst_row m.writes) ++ (section_lines (codes "beats") (map beat_row m.beats) ++ section_lines (codes "reads") (map burst_row m.reads))

abbrev pub block_lines : BlockEntries → List ℕ
block_lines b = section_lines (codes "wcodes") (map number_row b.wcodes) ++ section_lines (codes "rparts") (map part_row b.rparts)

unfoldable pub written : Values → List ℕ
written v = headed_line (codes "bridge") (bridge_row v) ++ (master_lines v.master ++ (block_lines v.block ++ section_lines (codes "gates") (map number_row v.gates)))

-- a section's values are within their carriers, and so is its count
pub record SectionFits (cs : List Carrier) (rows : List (List ℕ)) : Type 0 where
  pub count : length rows < 2 ^ 16
  pub each : AllByRecursion (Fit cs) rows

pub record Within (v : Values) : Type 0 where
  pub bridge : Fit bridge_carriers (bridge_row v)
  pub writes : SectionFits burst_carriers (map burst_row v.master.writes)
  pub beats : SectionFits beat_carriers (map beat_row v.master.beats)
  pub reads : SectionFits burst_carriers (map burst_row v.master.reads)
  pub wcodes : SectionFits code_carriers (map number_row v.block.wcodes)
  pub rparts : SectionFits part_carriers (map part_row v.block.rparts)
  pub gates : SectionFits gate_carriers (map number_row v.gates)
