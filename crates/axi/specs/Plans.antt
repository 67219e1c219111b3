-- The settings of a bridge: widths in bytes, level, and when there is no such plan.
use Rattle.std.specs.Prelude.{ℕ, Bool, not, ◌&&◌, ◌||◌, [], ◌∷◌, Some, None, Option, Result, MatchResult, ◌≡◌, ◌==◌, nat_lt}
use Rattle.axi.specs.First.{first_that}
use Rattle.axi.specs.declared.plan.Widths.{Widths}
use Rattle.axi.specs.declared.plan.Widths.TheVariants.{FourOverFour, EightOverFour, EightOverEight}
use Rattle.axi.specs.declared.plan.Level as declared_level
use Rattle.axi.specs.declared.plan.Level.TheVariants.{FullConversion, SimpleConversion, FullProtection}
use Rattle.axi.specs.declared.plan.PlanRefusal.{PlanRefusal}
use Rattle.axi.specs.declared.plan.PlanRefusal.TheVariants.{Width, LowerAboveUpper, Level}
use Rattle.axi.specs.declared.plan.Plan.{Plan}

abbrev pub upper_width : Widths → ℕ
upper_width FourOverFour = 4
upper_width EightOverFour = 8
upper_width EightOverEight = 8

abbrev pub lower_width : Widths → ℕ
lower_width FourOverFour = 4
lower_width EightOverFour = 4
lower_width EightOverEight = 8

-- the width of the upper bus, in bytes
abbrev pub upper_bytes : Plan → ℕ
upper_bytes p = upper_width p.widths

-- the width of the lower bus, in bytes
abbrev pub lower_bytes : Plan → ℕ
lower_bytes p = lower_width p.widths

abbrev pub level_number : declared_level.Level → ℕ
level_number FullConversion = 0
level_number SimpleConversion = 1
level_number FullProtection = 2

-- the refusals of a plan by their numbers
abbrev pub plan_refusal_number : PlanRefusal → ℕ
plan_refusal_number Width = 1
plan_refusal_number LowerAboveUpper = 2
plan_refusal_number Level = 3

-- a bus has 4 or 8 bytes
abbrev legal_width : ℕ → Bool
legal_width w = w == 4 || w == 8

-- what each refusal says of the upper width, the lower width and the level asked for
abbrev pub refuses_plan : ℕ → ℕ → ℕ → PlanRefusal → Bool
refuses_plan u l v Width = not (legal_width u && legal_width l)
refuses_plan u l v LowerAboveUpper = nat_lt u l
refuses_plan u l v Level = nat_lt 2 v

-- the first refusal that holds, in the order of their numbers
abbrev pub refused_plan : ℕ → ℕ → ℕ → Option PlanRefusal
refused_plan u l v = first_that (refuses_plan u l v) (λ e. Some e) None (Width ∷ LowerAboveUpper ∷ Level ∷ [])

-- widths in bytes give the two buses, or the first refusal that they meet at a legal level
abbrev pub ReadsWidths : ℕ × ℕ → Result Widths PlanRefusal → Type 0
ReadsWidths w r = MatchResult r (λ x. (upper_width x ≡ w.0) × (lower_width x ≡ w.1)) (λ e. refused_plan w.0 w.1 0 ≡ Some e)

-- a number gives the level that it stands for, or the refusal that it meets at legal widths
abbrev pub ReadsLevel : ℕ → Result declared_level.Level PlanRefusal → Type 0
ReadsLevel v r = MatchResult r (λ x. level_number x ≡ v) (λ e. refused_plan 4 4 v ≡ Some e)
