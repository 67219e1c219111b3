-- What the lines of a list come to.
use Rattle.std.specs.Prelude.{◌≡◌, ℕ, Bool, true, false, not, List, Some, Ok, Err, Result}
use Rattle.axi.specs.Bursts.{burst_fits}
use Rattle.axi.specs.Plans.{upper_bytes, lower_bytes, level_number, refused_plan}
use Rattle.axi.specs.declared.burst.Burst as bursts
use Rattle.axi.specs.declared.plan.Plan as plans
use Rattle.axi.specs.declared.plan.PlanRefusal.{PlanRefusal}
use Rattle.listing.specs.declared.item.Item.{Item}
use Rattle.listing.specs.declared.item.Item.TheVariants.{Bridge, Burst}
use Rattle.listing.specs.declared.refusal.Refusal.{Refusal}
use Rattle.listing.specs.declared.refusal.Refusal.TheVariants.{Words, Plan, Field}
use Rattle.sections.specs.Lines.{bridge_line, burst_line}
use Rattle.sections.specs.declared.line.Settings.{Settings}
use Rattle.words.specs.Cursors.{text}
use Rattle.words.specs.Faults.{line_at}
use Rattle.words.specs.Numbers.{is_number}
use Rattle.words.specs.Reading.{Read}
use Rattle.words.specs.Reading.Read.{got, stop}
use Rattle.words.specs.Words.{word}
use Rattle.words.specs.declared.cursor.Cursor.{Cursor}

-- a line of a plan begins with a keyword
abbrev pub begins : Read (List ℕ) → Bool
begins (got w after) = not (is_number w)
begins (stop f) = false

abbrev pub keyword_next : List ℕ → ℕ → Bool
keyword_next s at = begins (word s at)

abbrev pub settings_of : plans.Plan → Settings
settings_of p = record { upper = upper_bytes p; lower = lower_bytes p; level = level_number p.level }

abbrev pub Refused : Settings → PlanRefusal → Type 0
Refused b x = refused_plan b.upper b.lower b.level ≡ Some x

-- the plan with these settings, or its refusal at the line
abbrev pub PlanMade : Settings → ℕ → Result plans.Plan Refusal → Type 0
PlanMade b line (Ok p) = b ≡ settings_of p
PlanMade b line (Err (Words f)) = ⊥
PlanMade b line (Err (Plan x at)) = (at ≡ line) × Refused b x
PlanMade b line (Err (Field at)) = ⊥

abbrev ReadsRefused : Read Settings → PlanRefusal → Type 0
ReadsRefused (got b after) x = Refused b x
ReadsRefused (stop f) x = ⊥

-- what is read as settings: their plan, the fault, or the refusal
abbrev pub PlanTold : Read Settings → ℕ → ℕ → Result plans.Plan Refusal → Type 0
PlanTold reading line after (Ok p) = reading ≡ got (settings_of p) after
PlanTold reading line after (Err (Words f)) = reading ≡ stop f
PlanTold reading line after (Err (Plan x at)) = (at ≡ line) × ReadsRefused reading x
PlanTold reading line after (Err (Field at)) = ⊥

abbrev ReadsUnfit : Read bursts.Burst → Type 0
ReadsUnfit (got b after) = burst_fits b ≡ false
ReadsUnfit (stop f) = ⊥

-- what is read as a burst: itself if its fields fit, the fault, or the refusal
abbrev pub BurstTold : Read bursts.Burst → ℕ → ℕ → Result bursts.Burst Refusal → Type 0
BurstTold reading line after (Ok b) = (reading ≡ got b after) × (burst_fits b ≡ true)
BurstTold reading line after (Err (Words f)) = reading ≡ stop f
BurstTold reading line after (Err (Plan x at)) = ⊥
BurstTold reading line after (Err (Field at)) = (at ≡ line) × ReadsUnfit reading

-- what a line comes to under the plan in force, by whether it begins with a keyword
abbrev pub LineTold : Bool → plans.Plan → List ℕ → ℕ → ℕ → Result Item Refusal → Type 0
LineTold true plan s at after (Ok (Bridge p)) = PlanTold (bridge_line s at) (line_at s at) after (Ok p)
LineTold true plan s at after (Ok (Burst p b)) = ⊥
LineTold true plan s at after (Err e) = PlanTold (bridge_line s at) (line_at s at) after (Err e)
LineTold false plan s at after (Ok (Bridge p)) = ⊥
LineTold false plan s at after (Ok (Burst p b)) = (p ≡ plan) × BurstTold (burst_line s at) (line_at s at) after (Ok b)
LineTold false plan s at after (Err e) = BurstTold (burst_line s at) (line_at s at) after (Err e)

-- a call that reads a line at a cursor: the list stays, and the call tells what the line comes to
pub record Tells {X : Type 0} (line : List ℕ → ℕ → ℕ → Result X Refusal → Type 0) (before after : Cursor) (r : Result X Refusal) : Type 0 where
  pub same : text after ≡ text before
  pub told : line (text before) before.at after.at r

-- the line at a place, read as a plan, as a burst, and as what it begins with
abbrev pub plan_at : List ℕ → ℕ → ℕ → Result plans.Plan Refusal → Type 0
plan_at s at after r = PlanTold (bridge_line s at) (line_at s at) after r

abbrev pub burst_at : List ℕ → ℕ → ℕ → Result bursts.Burst Refusal → Type 0
burst_at s at after r = BurstTold (burst_line s at) (line_at s at) after r

abbrev pub item_at : plans.Plan → List ℕ → ℕ → ℕ → Result Item Refusal → Type 0
item_at plan s at after r = LineTold (keyword_next s at) plan s at after r

-- the plan in force after a line
abbrev pub in_force : Item → plans.Plan
in_force (Bridge p) = p
in_force (Burst p b) = p
