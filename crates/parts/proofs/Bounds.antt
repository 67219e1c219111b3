-- The beats of a forwarded burst lie below 2 ^ 32.
use Rattle.std.proofs.Common.{◌≡◌, ℕ, ◌+◌, ◌-◌, ◌*◌, ◌/◌, ◌%◌, ◌^◌, ◌<◌, ◌≤◌, true, false, not, ◌&&◌, eqb, ltb, sym, ap, ◌∙◌, inl, inr, mul-le-mul_right, mod-lt, suc-mul, div-lt_iff_lt-mul, div-add-mod', arith, pow_pos, pow-add}
use Rattle.std.proofs.lemmas.Bool.{ltb-false, eqb-true, or_cases, not-false, cond_both}
use Rattle.axi.specs.Bursts.{bytes, beats, kind_of}
use Rattle.parts.specs.Addresses.{down, incremented, wrapped, address, beat_address, beat_number, here, CarriedWhole}
use Rattle.axi.specs.Verdicts.{verdict_of, wrap_count, is_incr, is_wrap}
use Rattle.axi.specs.declared.plan.Plan.{Plan}
use Rattle.axi.specs.declared.burst.Burst.{Burst}
use Rattle.axi.specs.declared.burst.Kind.{Kind}
use Rattle.axi.specs.declared.burst.Kind.TheVariants.{Fixed, Incr, Wrap, Reserved}
use Rattle.parts.specs.declared.walk.Walk.{Walk}
use Rattle.axi.specs.declared.verdict.Verdict.TheVariants.{Forwarded, WrapCount, CrossesBoundary}
use Rattle.axi.proofs.Sizes.{Power, bytes_power}
use Rattle.axi.proofs.Reasons.{first_reason}

-- beat i lies wholly below the end of n beats of s bytes
below_end : (i n s : ℕ) → i < n → i * s + s ≤ n * s
below_end i n s h = omega (arith, mul-le-mul_right s h, suc-mul i s)

-- an address brought down to a multiple of 2 ^ k has room for 2 ^ k bytes
block_fits : (a k j : ℕ) → k + j ≡ 32 → a < 2 ^ 32 → down a (2 ^ k) + 2 ^ k ≤ 2 ^ 32
block_fits a k j e h =
    let sum : 32 ≡ j + k = omega (arith, e) in
    let whole : 2 ^ 32 ≡ 2 ^ j * 2 ^ k = ap (λ n. 2 ^ n) sum ∙ pow-add 2 j k in
    let low : a / 2 ^ k < 2 ^ j = (div-lt_iff_lt-mul (pow_pos k)).1 (omega (arith, whole, h)) in
    omega (arith, whole, div-add-mod' a (2 ^ k), mul-le-mul_right (2 ^ k) low, suc-mul (a / 2 ^ k) (2 ^ k))

-- 2 ^ m beats of s bytes, from a multiple of their length on
beats_fit : (a m s : ℕ) → m ≤ 4 → Power s → a < 2 ^ 32 → down a (2 ^ m * s) + 2 ^ m * s ≤ 2 ^ 32
beats_fit a m s h w f = rw (w.is, ← pow-add) (block_fits a (m + w.exponent) (32 - (m + w.exponent)) (omega (arith, w.small)) f)

wrap_fits : (a s n : ℕ) → Power s → a < 2 ^ 32 → wrap_count n ≡ true → down a (n * s) + n * s ≤ 2 ^ 32
wrap_fits a s n w f t =
    elim (or_cases (eqb n 2) _ t) [
      | inl e ↦ rw (eqb-true n 2 e) (beats_fit a 1 s (omega arith) w f)
      | inr t ↦ elim (or_cases (eqb n 4) _ t) [
        | inl e ↦ rw (eqb-true n 4 e) (beats_fit a 2 s (omega arith) w f)
        | inr t ↦ elim (or_cases (eqb n 8) _ t) [
          | inl e ↦ rw (eqb-true n 8 e) (beats_fit a 3 s (omega arith) w f)
          | inr e ↦ rw (eqb-true n 16 e) (beats_fit a 4 s (omega arith) w f)
        ]
      ]
    ]

some_byte : (s : ℕ) → Power s → 0 < s
some_byte s w = rw w.is (pow_pos w.exponent)

incr_below : (a s n i : ℕ) → Power s → a < 2 ^ 32 → i < n → ltb (a - a % 4096 + 4096) (a - a % s + n * s) ≡ false → incremented a s i < 2 ^ 32
incr_below a s n i w f h e =
    cond_both (eqb i 0) a (down a s + i * s) (λ x. x < 2 ^ 32) (λ first. f) (λ later. omega (arith, ltb-false _ _ e, below_end i n s h, some_byte s w))

wrap_below : (a s n i : ℕ) → Power s → a < 2 ^ 32 → i < n → wrap_count n ≡ true → wrapped a s (n * s) i < 2 ^ 32
wrap_below a s n i w f h t =
    let some : 0 < n * s = omega (arith, below_end i n s h, some_byte s w) in
    omega (arith, mod-lt (a - down a (n * s) + i * s) some, wrap_fits a s n w f t)

address_below : (k : Kind) (a s n i : ℕ) → Power s → a < 2 ^ 32 → i < n →
    (is_wrap k && not (wrap_count n)) ≡ false →
    (is_incr k && ltb (a - a % 4096 + 4096) (a - a % s + n * s)) ≡ false →
    address k a s n i < 2 ^ 32
address_below Fixed a s n i w f h c e = f
address_below Incr a s n i w f h c e = incr_below a s n i w f h e
address_below Wrap a s n i w f h c e = wrap_below a s n i w f h (not-false _ c)
address_below Reserved a s n i w f h c e = f

beat_below : (p : Plan) (b : Burst) (i : ℕ) → verdict_of p b ≡ Forwarded → b.addr < 2 ^ 32 → i ≤ b.len → beat_address b i < 2 ^ 32
beat_below p b i e f h =
    let r = first_reason p b Forwarded (sym e) in
    address_below (kind_of b.burst) b.addr (bytes b) (beats b) i (bytes_power b) f (omega arith) (r.none_before WrapCount (omega arith)) (r.none_before CrossesBoundary (omega arith))

pub carried_whole : (w : Walk) (a : ℕ) → w.burst.addr < 2 ^ 32 → a ≡ here w → CarriedWhole w a
carried_whole w a f e p v =
    let low = beat_below p w.burst (beat_number w.burst (w.count - 1)) v f (omega arith) in
    omega (arith, e, low)
