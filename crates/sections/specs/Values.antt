-- What the lines of each section stand for.
use Rattle.std.specs.Prelude.{◌≡◌, ℕ, List, [], ◌∷◌, map, Some, None, Option, IfSome, slice_index}
use Rattle.axi.specs.declared.burst.Burst.{Burst}
use Rattle.axi.specs.declared.wires.Beat.{Beat}
use Rattle.axi.specs.declared.wires.LowerRead.{LowerRead}
use Rattle.sections.specs.Lines.{burst_carriers}
use Rattle.sections.specs.Sections.{Row, entries, section_rows, section_text}
use Rattle.words.specs.declared.carrier.Carrier.{Carrier}
use Rattle.words.specs.declared.carrier.Carrier.TheVariants.{Bits8, Bits10, Bits64}
use Rattle.sections.specs.declared.section.Gate.{Gate}
use Rattle.sections.specs.declared.section.Section.{Section}

-- WDATA WSTRB
abbrev pub beat_carriers : List Carrier
beat_carriers = Bits64 ∷ Bits8 ∷ []

-- LBRESP
abbrev pub code_carriers : List Carrier
code_carriers = Bits8 ∷ []

-- LRDATA LRRESP
abbrev pub part_carriers : List Carrier
part_carriers = Bits64 ∷ Bits8 ∷ []

-- a gate
abbrev pub gate_carriers : List Carrier
gate_carriers = Bits10 ∷ []

abbrev pub burst_of : Row → Burst
burst_of r = record { id = slice_index r.values 0; addr = slice_index r.values 1; len = slice_index r.values 2; size = slice_index r.values 3; burst = slice_index r.values 4; lock = slice_index r.values 5; cache = slice_index r.values 6; prot = slice_index r.values 7 }

abbrev pub beat_values : List ℕ → Beat
beat_values vs = record { wdata = slice_index vs 0; wstrb = slice_index vs 1 }

abbrev pub beat_of : Row → Beat
beat_of r = record { wdata = slice_index r.values 0; wstrb = slice_index r.values 1 }

abbrev pub code_values : List ℕ → ℕ
code_values vs = slice_index vs 0

abbrev pub code_of : Row → ℕ
code_of r = slice_index r.values 0

abbrev pub part_values : List ℕ → LowerRead
part_values vs = record { lrdata = slice_index vs 0; lrresp = slice_index vs 1 }

abbrev pub part_of : Row → LowerRead
part_of r = record { lrdata = slice_index r.values 0; lrresp = slice_index r.values 1 }

-- a gate's bits, and the place of its word
pub record GateAt : Type 0 where
  pub bits : ℕ
  pub place : ℕ

abbrev pub gate_of : Row → GateAt
gate_of r = record { bits = slice_index r.values 0; place = r.place }

abbrev pub gate_at : Gate → GateAt
gate_at g = record { bits = g.bits; place = g.at.at }

-- the entries that are left in a section
unfoldable pub bursts : Section Burst → List Burst
bursts x = map burst_of (section_rows burst_carriers x)

unfoldable pub beats : Section Beat → List Beat
beats x = map beat_of (section_rows beat_carriers x)

unfoldable pub write_codes : Section ℕ → List ℕ
write_codes x = map code_of (section_rows code_carriers x)

unfoldable pub read_parts : Section LowerRead → List LowerRead
read_parts x = map part_of (section_rows part_carriers x)

unfoldable pub gates : Section Gate → List GateAt
gates x = map gate_of (section_rows gate_carriers x)

-- a call gives the head of what is left, and leaves the tail; none of nothing
abbrev pub Taken : {X Y : Type 0} → (Y → X) → List X → Option Y → List X → Type 0
Taken seen before None after = (before ≡ []) × (after ≡ [])
Taken seen before (Some y) after = before ≡ seen y ∷ after

-- so does `next`, which stays in the script
pub record NextGives {T X : Type 0} (cs : List Carrier) (of : Row → X) (seen : T → X) (In : List ℕ → T → Type 0) (before : Section T) (given : Option T) (after : Section T) : Type 0 where
  pub taken : Taken seen (entries cs of before) given (entries cs of after)
  pub same : section_text after ≡ section_text before
  pub inside : IfSome given (In (section_text before))
