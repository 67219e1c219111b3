-- The ten reasons to refuse a burst, in their order.
use Rattle.std.specs.Prelude.{◌≡◌, ℕ, ◌+◌, ◌-◌, ◌*◌, ◌%◌, ◌<◌, Bool, true, false, cond, not, ◌&&◌, ◌||◌, List, [], ◌∷◌, ◌++◌, Some, None, Option, ◌==◌, nat_le, nat_lt}
use Rattle.axi.specs.First.{first_that}
use Rattle.axi.specs.Plans.{upper_bytes, lower_bytes, level_number}
use Rattle.axi.specs.Bursts.{bytes, beats, kind_of}
use Rattle.axi.specs.declared.plan.Plan.{Plan}
use Rattle.axi.specs.declared.plan.Level.{Level}
use Rattle.axi.specs.declared.burst.Burst.{Burst}
use Rattle.axi.specs.declared.burst.Kind.{Kind}
use Rattle.axi.specs.declared.burst.Kind.TheVariants.{Fixed, Incr, Wrap, Reserved}
use Rattle.axi.specs.declared.verdict.Verdict.{Verdict}
use Rattle.axi.specs.declared.verdict.Verdict.TheVariants.{Forwarded, ReservedKind, WiderThanUpper, FixedTooLong, WrapCount, WrapUnaligned, CrossesBoundary, SeveralBeats, WiderThanLower, NarrowerThanLower, LockedOrCached}

-- the verdicts by their numbers
abbrev pub verdict_number : Verdict → ℕ
verdict_number Forwarded = 0
verdict_number ReservedKind = 1
verdict_number WiderThanUpper = 2
verdict_number FixedTooLong = 3
verdict_number WrapCount = 4
verdict_number WrapUnaligned = 5
verdict_number CrossesBoundary = 6
verdict_number SeveralBeats = 7
verdict_number WiderThanLower = 8
verdict_number NarrowerThanLower = 9
verdict_number LockedOrCached = 10

abbrev pub is_reserved : Kind → Bool
is_reserved Fixed = false
is_reserved Incr = false
is_reserved Wrap = false
is_reserved Reserved = true

abbrev pub is_fixed : Kind → Bool
is_fixed Fixed = true
is_fixed Incr = false
is_fixed Wrap = false
is_fixed Reserved = false

abbrev pub is_incr : Kind → Bool
is_incr Fixed = false
is_incr Incr = true
is_incr Wrap = false
is_incr Reserved = false

abbrev pub is_wrap : Kind → Bool
is_wrap Fixed = false
is_wrap Incr = false
is_wrap Wrap = true
is_wrap Reserved = false

-- a wrapping burst has 2, 4, 8 or 16 beats
abbrev pub wrap_count : ℕ → Bool
wrap_count n = n == 2 || (n == 4 || (n == 8 || n == 16))

-- the beats, from the first one's aligned address on, end past the next multiple of 4,096 after ADDR
abbrev pub past_boundary : Burst → Bool
past_boundary b = nat_lt (b.addr - b.addr % 4096 + 4096) (b.addr - b.addr % bytes b + beats b * bytes b)

-- level 1 and level 2 protect the block
abbrev pub protects : Plan → Bool
protects p = nat_le 1 (level_number p.level)

abbrev pub protects_fully : Plan → Bool
protects_fully p = level_number p.level == 2

-- what each verdict says of a burst
abbrev pub applies : Plan → Burst → Verdict → Bool
applies p b Forwarded = true
applies p b ReservedKind = is_reserved (kind_of b.burst)
applies p b WiderThanUpper = nat_lt (upper_bytes p) (bytes b)
applies p b FixedTooLong = is_fixed (kind_of b.burst) && nat_lt 16 (beats b)
applies p b WrapCount = is_wrap (kind_of b.burst) && not (wrap_count (beats b))
applies p b WrapUnaligned = is_wrap (kind_of b.burst) && not (b.addr % bytes b == 0)
applies p b CrossesBoundary = is_incr (kind_of b.burst) && past_boundary b
applies p b SeveralBeats = protects p && nat_lt 1 (beats b)
applies p b WiderThanLower = protects p && nat_lt (lower_bytes p) (bytes b)
applies p b NarrowerThanLower = protects_fully p && nat_lt (bytes b) (lower_bytes p)
applies p b LockedOrCached = protects_fully p && (b.lock == 1 || not (b.cache == 0))

-- the rules on a burst's shape, and those of the levels, each in its order
abbrev pub shape_rules : List Verdict
shape_rules = ReservedKind ∷ WiderThanUpper ∷ FixedTooLong ∷ WrapCount ∷ WrapUnaligned ∷ CrossesBoundary ∷ []

abbrev pub level_rules : List Verdict
level_rules = SeveralBeats ∷ WiderThanLower ∷ NarrowerThanLower ∷ LockedOrCached ∷ []

-- the first rule that applies, or Forwarded where none does
abbrev pub verdict_of : Plan → Burst → Verdict
verdict_of p b = first_that (applies p b) (λ v. v) Forwarded (shape_rules ++ level_rules)

-- the same settings at another level
abbrev pub at_level : Level → Plan → Plan
at_level v p = record { widths = p.widths; level = v }

abbrev pub is_forwarded : Verdict → Bool
is_forwarded v = verdict_number v == 0

-- the reasons in the order of their numbers, and Forwarded after all of them
abbrev pub rank : Verdict → ℕ
rank v = cond (is_forwarded v) 11 (verdict_number v)

-- v applies to the burst, and no reason before it does; so where v is Forwarded, no reason at all
pub record FirstReason (p : Plan) (b : Burst) (v : Verdict) : Type 0 where
  pub holds : applies p b v ≡ true
  pub none_before : (u : Verdict) → rank u < rank v → applies p b u ≡ false

-- the rule that the burst's shape breaks, if any
abbrev pub shape_refusal : Plan → Burst → Option Verdict
shape_refusal p b = first_that (applies p b) (λ v. Some v) None shape_rules

abbrev pub level_verdict : Plan → Burst → Verdict
level_verdict p b = first_that (applies p b) (λ v. v) Forwarded level_rules
