-- The verdict is the first reason that applies.
use Rattle.std.proofs.Common.{◌≡◌, ℕ, ◌+◌, ◌<◌, false, List, [], ◌∷◌, ◌++◌, get_or, sym, refl, ap, ◌∙◌, subst, inl, inr, arith}
use Rattle.std.proofs.lemmas.Bool.{cases_Bool, cases_lt}
use Rattle.axi.specs.First.{first_that}
use Rattle.axi.specs.Verdicts.{applies, rank, verdict_of, shape_rules, level_rules, FirstReason}
use Rattle.axi.specs.declared.plan.Plan.{Plan}
use Rattle.axi.specs.declared.burst.Burst.{Burst}
use Rattle.axi.specs.declared.verdict.Verdict.{Verdict}
use Rattle.axi.specs.declared.verdict.Verdict.TheVariants.{Forwarded, ReservedKind, WiderThanUpper, FixedTooLong, WrapCount, WrapUnaligned, CrossesBoundary, SeveralBeats, WiderThanLower, NarrowerThanLower, LockedOrCached}

-- the verdict of this rank
ranked : ℕ → Verdict
ranked n = get_or (Forwarded ∷ (shape_rules ++ level_rules)) n Forwarded

ranked_rank : (u : Verdict) → ranked (rank u) ≡ u
unfolding ranked
ranked_rank Forwarded = refl
ranked_rank ReservedKind = refl
ranked_rank WiderThanUpper = refl
ranked_rank FixedTooLong = refl
ranked_rank WrapCount = refl
ranked_rank WrapUnaligned = refl
ranked_rank CrossesBoundary = refl
ranked_rank SeveralBeats = refl
ranked_rank WiderThanLower = refl
ranked_rank NarrowerThanLower = refl
ranked_rank LockedOrCached = refl

same_rank : (u v : Verdict) → rank u ≡ rank v → u ≡ v
same_rank u v e = sym (ranked_rank u) ∙ (ap ranked e ∙ ranked_rank v)

none_at_0 : (u : Verdict) → rank u ≡ 0 → ⊥
unfolding ranked
none_at_0 u e = let f : u ≡ Forwarded = sym (ranked_rank u) ∙ ap ranked e in omega (arith, ap rank f)

-- the reasons from rank k on, in their order
abbrev From : ℕ → List Verdict → Type 0
From k [] = k ≡ 11
From k (v ∷ vs) = (rank v ≡ k) × From (k + 1) vs

module _ (p : Plan) (b : Burst) where
  -- no reason below rank k applies
  abbrev NoneBelow : ℕ → Type 0
  NoneBelow k = (u : Verdict) → rank u < k → applies p b u ≡ false

  one_more : (k : ℕ) (v : Verdict) → rank v ≡ k → applies p b v ≡ false → NoneBelow k → NoneBelow (k + 1)
  one_more k v e none below u h =
      elim (cases_lt (rank u) k) [
        | inl l ↦ below u l
        | inr l ↦ subst (λ w. applies p b w ≡ false) (same_rank v u (omega arith)) none
      ]

  first : (k : ℕ) (vs : List Verdict) → From k vs → NoneBelow k → FirstReason p b (first_that (applies p b) (λ v. v) Forwarded vs)
  first k [] e below = record { holds = refl; none_before = λ u h. below u (omega arith) }
  first k (v ∷ vs) e below =
      elim (cases_Bool (applies p b v)) [
        | inl t ↦ rw t (record { holds = t; none_before = λ u h. below u (omega arith) })
        | inr t ↦ rw t (first (k + 1) vs e.1 (one_more k v e.0 t below))
      ]

  pub first_reason : (v : Verdict) → v ≡ verdict_of p b → FirstReason p b v
  first_reason v e =
      let due = first 1 (shape_rules ++ level_rules) (refl, (refl, (refl, (refl, (refl, (refl, (refl, (refl, (refl, (refl, refl)))))))))) (λ u h. absurd (none_at_0 u (omega arith))) in
      subst (λ v. FirstReason p b v) (sym e) due
