-- A whole script.
use Rattle.std.specs.Prelude.{◌≡◌, ℕ, cond, List, map, length, Ok, Err, codes, Result, nat_le, slice_index}
use Rattle.axi.specs.declared.burst.Burst.{Burst}
use Rattle.axi.specs.declared.wires.Beat.{Beat}
use Rattle.axi.specs.declared.wires.LowerRead.{LowerRead}
use Rattle.words.specs.Faults.{fault_at}
use Rattle.sections.specs.Lines.{bridge_carriers, burst_carriers}
use Rattle.words.specs.Lines.{headed}
use Rattle.words.specs.Reading.{Read, then}
use Rattle.words.specs.Reading.Read.{got, stop}
use Rattle.sections.specs.Sections.{section}
use Rattle.sections.specs.Values.{GateAt, beat_carriers, code_carriers, part_carriers, gate_carriers, burst_of, beat_of, code_of, part_of, gate_of, bursts, beats, write_codes, read_parts, gates}
use Rattle.words.specs.Words.{end}
use Rattle.words.specs.declared.fault.Fault.{Fault}
use Rattle.words.specs.declared.fault.Wrong.TheVariants.{TooLong}
use Rattle.script.specs.declared.script.Block.{Block}
use Rattle.script.specs.declared.script.Master.{Master}
use Rattle.script.specs.declared.script.Script.{Script}

-- what a script holds: the bridge's values, the entries of the master's and of the block's sections, and the gates
pub record MasterEntries : Type 0 where
  pub writes : List Burst
  pub beats : List Beat
  pub reads : List Burst

pub record BlockEntries : Type 0 where
  pub wcodes : List ℕ
  pub rparts : List LowerRead

pub record Contents : Type 0 where
  pub upper : ℕ
  pub lower : ℕ
  pub level : ℕ
  pub master : MasterEntries
  pub block : BlockEntries
  pub gates : List GateAt

abbrev pub master : List ℕ → ℕ → Read MasterEntries
master s at =
    then (section (codes "writes") burst_carriers s at) λ writes at₁.
    then (section (codes "beats") beat_carriers s at₁) λ beats at₂.
    then (section (codes "reads") burst_carriers s at₂) λ reads after.
    got (record { writes = map burst_of writes; beats = map beat_of beats; reads = map burst_of reads }) after

abbrev pub block : List ℕ → ℕ → Read BlockEntries
block s at =
    then (section (codes "wcodes") code_carriers s at) λ wcodes at₁.
    then (section (codes "rparts") part_carriers s at₁) λ rparts after.
    got (record { wcodes = map code_of wcodes; rparts = map part_of rparts }) after

-- nothing follows the last gate
abbrev pub edges : List ℕ → ℕ → Read (List GateAt)
edges s at =
    then (section (codes "gates") gate_carriers s at) λ gates at₁.
    then (end s at₁) λ _ after.
    got (map gate_of gates) after

abbrev pub whole : List ℕ → Read Contents
whole s =
    then (headed (codes "bridge") bridge_carriers s 0) λ bridge at₁.
    then (master s at₁) λ master at₂.
    then (block s at₂) λ block at₃.
    then (edges s at₃) λ gates after.
    got (record { upper = slice_index bridge 0; lower = slice_index bridge 1; level = slice_index bridge 2; master = master; block = block; gates = gates }) after

abbrev pub outcome : {X : Type 0} → Read X → Result X Fault
outcome (got x after) = Ok x
outcome (stop fault) = Err fault

-- the length is checked first
unfoldable pub script : List ℕ → Result Contents Fault
script s = cond (nat_le (length s) 16384) (outcome (whole s)) (Err (fault_at s TooLong 0))

-- the entries that are left
abbrev pub master_left : Master → MasterEntries
master_left m = record { writes = bursts m.writes; beats = beats m.beats; reads = bursts m.reads }

abbrev pub block_left : Block → BlockEntries
block_left b = record { wcodes = write_codes b.wcodes; rparts = read_parts b.rparts }

abbrev pub contents : Script → Contents
contents x = record { upper = x.settings.upper; lower = x.settings.lower; level = x.settings.level; master = master_left x.master; block = block_left x.block; gates = gates x.gates }

-- what a reading of the whole script returns
abbrev pub Reads : Result Contents Fault → Result Script Fault → Type 0
Reads given (Ok x) = given ≡ Ok (contents x)
Reads given (Err fault) = given ≡ Err fault
