-- A cursor of an address and a count comes to just the parts of the beat.
use Rattle.std.proofs.Common.{◌≡◌, ℕ, zero, suc, ◌+◌, ◌-◌, ◌*◌, ◌/◌, ◌^◌, ◌<◌, ◌≤◌, cond, [], ◌∷◌, sym, refl, ap, ◌∙◌, subst, inl, inr, suc-mul, arith}
use Rattle.std.proofs.lemmas.Bool.Decides.{leb_tells}
use Rattle.parts.specs.Addresses.{down}
use Rattle.axi.specs.Plans.{lower_width, lower_bytes}
use Rattle.parts.specs.Parts.{row, multiples, places, bytes_after, next_place, further}
use Rattle.axi.specs.declared.plan.Plan.{Plan}
use Rattle.axi.specs.declared.plan.Widths.{Widths}
use Rattle.axi.specs.declared.plan.Widths.TheVariants.{FourOverFour, EightOverFour, EightOverEight}
use Rattle.axi.proofs.Sizes.{Power}

-- what a bus of 4 bytes has and one of 8 bytes has, every lower bus has
pub by_width : (P : ℕ → Type 0) → P 4 → P 8 → (w : Widths) → P (lower_width w)
by_width P four eight FourOverFour = four
by_width P four eight EightOverFour = four
by_width P four eight EightOverEight = eight

-- the address after an aligned one, and what the parts before it leave of the address space
record Step (l a : ℕ) : Type 0 where
  aligned : down (down a l + l) l ≡ down a l + l

step : (p : Plan) (a : ℕ) → Step (lower_bytes p) a
step p a = by_width (λ l. Step l a) (record { aligned = omega arith }) (record { aligned = omega arith }) p.widths

same_row : (p : Plan) (k a : ℕ) → down a (lower_bytes p) + k * lower_bytes p < 2 ^ 32 → further p a k ≡ row k (down a (lower_bytes p) + lower_bytes p) (lower_bytes p)
same_row p zero a h = refl
same_row p (suc k) a h =
    let l = lower_bytes p in
    let here : next_place p a ≡ down a l + l = omega (arith, suc-mul k l) in
    let on = (step p a).aligned in
    let room : down (down a l + l) l + k * l < 2 ^ 32 = omega (arith, suc-mul k l, on) in
    ap (λ x. x ∷ further p x k) here ∙ ap (λ t. (down a l + l) ∷ t) (same_row p k (down a l + l) room ∙ ap (λ x. row k (x + l) l) on)

-- a block of 2 ^ k bytes that is wider than a bus of l bytes has so many multiples of l above a, all of them addresses
record Counted (l s a : ℕ) : Type 0 where
  count : bytes_after s a / l ≡ (down a s + s - 1) / l - a / l
  fits : down a l + bytes_after s a / l * l < 2 ^ 32

counted : (w : Widths) (k a : ℕ) → k ≤ 8 → a < 2 ^ 32 → lower_width w < 2 ^ k → Counted (lower_width w) (2 ^ k) a
counted w zero a h f = by_width (λ l. l < 1 → Counted l 1 a) (λ wide. record { count = omega arith; fits = omega arith }) (λ wide. record { count = omega arith; fits = omega arith }) w
counted w (suc zero) a h f = by_width (λ l. l < 2 → Counted l 2 a) (λ wide. record { count = omega arith; fits = omega arith }) (λ wide. record { count = omega arith; fits = omega arith }) w
counted w (suc (suc zero)) a h f = by_width (λ l. l < 4 → Counted l 4 a) (λ wide. record { count = omega arith; fits = omega arith }) (λ wide. record { count = omega arith; fits = omega arith }) w
counted w (suc (suc (suc zero))) a h f = by_width (λ l. l < 8 → Counted l 8 a) (λ wide. record { count = omega arith; fits = omega arith }) (λ wide. record { count = omega arith; fits = omega arith }) w
counted w (suc (suc (suc (suc zero)))) a h f = by_width (λ l. l < 16 → Counted l 16 a) (λ wide. record { count = omega arith; fits = omega arith }) (λ wide. record { count = omega arith; fits = omega arith }) w
counted w (suc (suc (suc (suc (suc zero))))) a h f = by_width (λ l. l < 32 → Counted l 32 a) (λ wide. record { count = omega arith; fits = omega arith }) (λ wide. record { count = omega arith; fits = omega arith }) w
counted w (suc (suc (suc (suc (suc (suc zero)))))) a h f = by_width (λ l. l < 64 → Counted l 64 a) (λ wide. record { count = omega arith; fits = omega arith }) (λ wide. record { count = omega arith; fits = omega arith }) w
counted w (suc (suc (suc (suc (suc (suc (suc zero))))))) a h f = by_width (λ l. l < 128 → Counted l 128 a) (λ wide. record { count = omega arith; fits = omega arith }) (λ wide. record { count = omega arith; fits = omega arith }) w
counted w (suc (suc (suc (suc (suc (suc (suc (suc zero)))))))) a h f = by_width (λ l. l < 256 → Counted l 256 a) (λ wide. record { count = omega arith; fits = omega arith }) (λ wide. record { count = omega arith; fits = omega arith }) w
counted w (suc (suc (suc (suc (suc (suc (suc (suc (suc k))))))))) a h f = absurd (omega arith)

-- a beat no wider than the bus has no part after the first
alone : (p : Plan) (s a : ℕ) → s ≤ lower_bytes p → bytes_after s a / lower_bytes p ≡ 0
alone p s a = by_width (λ l. s ≤ l → bytes_after s a / l ≡ 0) (λ h. omega arith) (λ h. omega arith) p.widths

several : (p : Plan) (s a : ℕ) → Power s → a < 2 ^ 32 → lower_bytes p < s → further p a (bytes_after s a / lower_bytes p) ≡ multiples (lower_bytes p) a (down a s + s)
several p s a w f h =
    let c : Counted (lower_bytes p) s a = subst (λ x. Counted (lower_bytes p) x a) (sym w.is) (counted p.widths w.exponent a w.small f (rw w.is at h)) in
    same_row p _ a c.fits ∙ ap (λ k. row k (down a (lower_bytes p) + lower_bytes p) (lower_bytes p)) c.count

pub cut_is : (p : Plan) (s a : ℕ) → Power s → a < 2 ^ 32 → a ∷ further p a (bytes_after s a / lower_bytes p) ≡ places p s a
cut_is p s a w f =
    elim (leb_tells s (lower_bytes p)) [
      | inl t ↦ ap (λ k. a ∷ further p a k) (alone p s a t.1) ∙ sym (ap (λ t. cond t (a ∷ []) (a ∷ multiples (lower_bytes p) a (down a s + s))) t.0)
      | inr t ↦ ap (λ r. a ∷ r) (several p s a w f t.1) ∙ sym (ap (λ t. cond t (a ∷ []) (a ∷ multiples (lower_bytes p) a (down a s + s))) t.0)
    ]
