-- The parts of a beat are its address and the multiples of L above it within its block, upward.
use Rattle.std.proofs.Common.{◌≡◌, ℕ, zero, suc, ◌+◌, ◌-◌, ◌*◌, ◌/◌, ◌%◌, ◌^◌, ◌<◌, ◌≤◌, leb, [], ◌∷◌, sym, subst, inl, inr, suc-mul, zero-mul, arith}
use Rattle.std.proofs.lemmas.Nat.{pow_below}
use Rattle.std.proofs.lemmas.Bool.{cases_lt, cond_both, leb-true}
use Rattle.parts.specs.Addresses.{down}
use Rattle.axi.specs.Plans.{lower_width, lower_bytes}
use Rattle.parts.specs.Parts.{row, multiples, places, Among, Ascends, Within, Parted}
use Rattle.axi.specs.declared.plan.Plan.{Plan}
use Rattle.axi.specs.declared.plan.Widths.{Widths}
use Rattle.axi.proofs.Sizes.{Power}
use Rattle.parts.proofs.Cuts.{by_width}

-- what stands in a row of k addresses from a on, l apart
record InRow (k a l x : ℕ) : Type 0 where
  step : ℕ
  within : step < k
  is : x ≡ a + step * l

row_only : (k a l x : ℕ) → Among x (row k a l) → InRow k a l x
row_only zero a l x h = elim h [ ]
row_only (suc k) a l x (inl e) = record { step = 0; within = omega arith; is = omega (arith, zero-mul l) }
row_only (suc k) a l x (inr h) = let r = row_only k (a + l) l x h in record { step = suc r.step; within = omega arith; is = omega (arith, suc-mul r.step l) }

row_all : (k a l step : ℕ) → step < k → Among (a + step * l) (row k a l)
row_all zero a l step h = absurd (omega arith)
row_all (suc k) a l zero h = inl (omega (arith, zero-mul l))
row_all (suc k) a l (suc step) h =
    let on : a + l + step * l ≡ a + suc step * l = omega (arith, suc-mul step l) in
    inr (subst (λ x. Among x (row k (a + l) l)) on (row_all k (a + l) l step (omega arith)))

from_row : (k a l x : ℕ) → InRow k a l x → Among x (row k a l)
from_row k a l x r = subst (λ y. Among y (row k a l)) (sym r.is) (row_all k a l r.step r.within)

row_upward : (k a l : ℕ) → 0 < l → Ascends (row k a l)
row_upward zero a l h = tt
row_upward (suc k) a l h = (λ y t. let r = row_only k (a + l) l y t in omega arith, row_upward k (a + l) l h)

-- the multiples of l above a and below e
abbrev Between : ℕ → ℕ → ℕ → ℕ → Type 0
Between l a e x = (a < x) × (x < e) × (x % l ≡ 0)

module _ (p : Plan) (a e : ℕ) where
  multiples_only : (x : ℕ) → Among x (multiples (lower_bytes p) a e) → Between (lower_bytes p) a e x
  multiples_only x h =
      by_width (λ l. InRow ((e - 1) / l - a / l) (down a l + l) l x → Between l a e x)
      (λ r. (omega arith, omega arith, omega arith)) (λ r. (omega arith, omega arith, omega arith)) p.widths
      (row_only _ _ _ x h)

  multiples_all : (x : ℕ) → Between (lower_bytes p) a e x → Among x (multiples (lower_bytes p) a e)
  multiples_all x h =
      from_row _ _ _ x (by_width (λ l. Between l a e x → InRow ((e - 1) / l - a / l) (down a l + l) l x)
      (λ h. record { step = x / 4 - a / 4 - 1; within = omega arith; is = omega arith })
      (λ h. record { step = x / 8 - a / 8 - 1; within = omega arith; is = omega arith })
      p.widths h)

  multiples_upward : Ascends (multiples (lower_bytes p) a e)
  multiples_upward = row_upward _ _ _ (by_width (λ l. 0 < l) (omega arith) (omega arith) p.widths)

-- a block of 2 ^ k bytes, at most a bus of l bytes, has no multiple of l above an address of its own
none_between : (w : Widths) (k a x : ℕ) → k ≤ 3 → 2 ^ k ≤ lower_width w → Between (lower_width w) a (down a (2 ^ k) + 2 ^ k) x → ⊥
none_between w zero a x h = by_width (λ l. 1 ≤ l → Between l a (down a 1 + 1) x → ⊥) (λ f t. omega arith) (λ f t. omega arith) w
none_between w (suc zero) a x h = by_width (λ l. 2 ≤ l → Between l a (down a 2 + 2) x → ⊥) (λ f t. omega arith) (λ f t. omega arith) w
none_between w (suc (suc zero)) a x h = by_width (λ l. 4 ≤ l → Between l a (down a 4 + 4) x → ⊥) (λ f t. omega arith) (λ f t. omega arith) w
none_between w (suc (suc (suc zero))) a x h = by_width (λ l. 8 ≤ l → Between l a (down a 8 + 8) x → ⊥) (λ f t. omega arith) (λ f t. omega arith) w
none_between w (suc (suc (suc (suc k)))) a x h = absurd (omega arith)

lower_small : (p : Plan) → lower_bytes p ≤ 8
lower_small p = by_width (λ l. l ≤ 8) (omega arith) (omega arith) p.widths

-- 2 ^ k is at most 8 for k up to 3 only
few : (k : ℕ) → 2 ^ k ≤ 8 → k ≤ 3
few k h = elim (cases_lt 3 k) [ inl l ↦ absurd (omega (arith, pow_below 3 k l)) | inr l ↦ l ]

one_part : (p : Plan) (s a : ℕ) → Power s → s ≤ lower_bytes p → Parted p s a (a ∷ [])
one_part p s a w h =
    let fits : 2 ^ w.exponent ≤ lower_bytes p = rw w.is at h in
    let none : (x : ℕ) → Within p s a x → ⊥ =
    λ x. subst (λ n. Between (lower_bytes p) a (down a n + n) x → ⊥) (sym w.is) (none_between p.widths w.exponent a x (few w.exponent (omega (arith, lower_small p))) fits) in
    record {
      only = λ x t. elim t [ inl e ↦ inl e | inr t ↦ absurd t ];
      all = λ x t. elim t [ inl e ↦ inl e | inr t ↦ absurd (none x t) ];
      upward = (λ y t. elim t [ ], tt);
    }

several_parts : (p : Plan) (s a : ℕ) → Parted p s a (a ∷ multiples (lower_bytes p) a (down a s + s))
several_parts p s a =
    let end = down a s + s in
    record {
      only = λ x t. elim t [ inl e ↦ inl e | inr t ↦ inr (multiples_only p a end x t) ];
      all = λ x t. elim t [ inl e ↦ inl e | inr t ↦ inr (multiples_all p a end x t) ];
      upward = (λ y t. (multiples_only p a end y t).0, multiples_upward p a end);
    }

-- the parts of a beat are what its address and its bytes make them
pub places_parted : (p : Plan) (s a : ℕ) → Power s → Parted p s a (places p s a)
places_parted p s a w = cond_both (leb s (lower_bytes p)) _ _ (λ xs. Parted p s a xs) (λ t. one_part p s a w (leb-true _ _ t)) (λ t. several_parts p s a)
