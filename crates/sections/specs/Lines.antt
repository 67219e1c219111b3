-- The lines of a bridge and of a burst.
use Rattle.std.specs.Prelude.{◌≡◌, ℕ, List, [], ◌∷◌, Some, None, Ok, Err, Result, codes, slice_index}
use Rattle.axi.specs.Plans.{upper_bytes, lower_bytes, level_number, refused_plan}
use Rattle.axi.specs.declared.burst.Burst.{Burst}
use Rattle.axi.specs.declared.plan.Plan.{Plan}
use Rattle.axi.specs.declared.plan.PlanRefusal.{PlanRefusal}
use Rattle.sections.specs.declared.line.Settings.{Settings}
use Rattle.words.specs.Lines.{numbers, headed}
use Rattle.words.specs.Reading.{Read, then}
use Rattle.words.specs.Reading.Read.{got}
use Rattle.words.specs.declared.carrier.Carrier.{Carrier}
use Rattle.words.specs.declared.carrier.Carrier.TheVariants.{Bits8, Bits16, Bits32}

-- U L level
abbrev pub bridge_carriers : List Carrier
bridge_carriers = Bits8 ∷ Bits8 ∷ Bits8 ∷ []

abbrev pub settings_values : List ℕ → Settings
settings_values vs = record { upper = slice_index vs 0; lower = slice_index vs 1; level = slice_index vs 2 }

-- the numbers of the line, by its settings
abbrev pub settings_row : Settings → List ℕ
settings_row b = b.upper ∷ b.lower ∷ b.level ∷ []

abbrev pub bridge_line : List ℕ → ℕ → Read Settings
bridge_line s at = then (headed (codes "bridge") bridge_carriers s at) (λ vs after. got (settings_values vs) after)

-- the plan with these settings, or the first reason against it
abbrev pub PlanOf : Settings → Result Plan PlanRefusal → Type 0
PlanOf b (Ok p) = (refused_plan b.upper b.lower b.level ≡ None) × (upper_bytes p ≡ b.upper) × (lower_bytes p ≡ b.lower) × (level_number p.level ≡ b.level)
PlanOf b (Err e) = refused_plan b.upper b.lower b.level ≡ Some e

-- ID ADDR LEN SIZE BURST LOCK CACHE PROT
abbrev pub burst_carriers : List Carrier
burst_carriers = Bits16 ∷ Bits32 ∷ Bits8 ∷ Bits8 ∷ Bits8 ∷ Bits8 ∷ Bits8 ∷ Bits8 ∷ []

abbrev pub burst_values : List ℕ → Burst
burst_values vs = record { id = slice_index vs 0; addr = slice_index vs 1; len = slice_index vs 2; size = slice_index vs 3; burst = slice_index vs 4; lock = slice_index vs 5; cache = slice_index vs 6; prot = slice_index vs 7 }

abbrev pub burst_line : List ℕ → ℕ → Read Burst
burst_line s at = then (numbers burst_carriers s at) (λ vs after. got (burst_values vs) after)
