-- Joined by bitwise or, the parts of one beat give each lane the byte of the part that uses it.
use Rattle.std.proofs.Common.{◌≡◌, ℕ, zero, suc, ◌+◌, ◌-◌, ◌*◌, ◌/◌, ◌%◌, ◌^◌, ◌<◌, ◌≤◌, Bool, true, false, cond, ◌&&◌, ltb, leb, List, [], ◌∷◌, length, sym, refl, ap, ◌∙◌, subst, ap₂, inl, inr, arith}
use lib.Bits.{bit_or, or_zero_r, or_shifted_r}
use Rattle.std.proofs.lemmas.Bool.Decides.{nat_tests}
use Rattle.std.proofs.lemmas.Bool.{cases_lt, ltb-false}
use Rattle.axi.specs.Plans.{upper_bytes, lower_bytes}
use Rattle.axi.specs.declared.plan.Level.{Level}
use Rattle.axi.specs.declared.plan.Widths.{Widths}
use Rattle.axi.specs.declared.plan.Widths.TheVariants.{FourOverFour, EightOverFour, EightOverEight}
use Rattle.axi.specs.declared.verdict.Verdict.{Verdict}
use Rattle.axi.specs.Bursts.{bytes}
use Rattle.parts.specs.Addresses.{down}
use Rattle.axi.specs.Verdicts.{verdict_of}
use Rattle.parts.specs.Parts.{places, row, multiples}
use Rattle.parts.specs.Lanes.{lane, raised}
use Rattle.axi.specs.declared.plan.Plan.{Plan}
use Rattle.axi.specs.declared.burst.Burst.{Burst}
use Rattle.axi.specs.declared.verdict.Verdict.TheVariants.{Forwarded, ReservedKind, WiderThanUpper}
use Rattle.axi.specs.declared.wires.LowerRead.{LowerRead}
use Rattle.axi.specs.Codes.{read_code}
use Rattle.axi.specs.declared.code.Code.TheVariants.{Okay}
use Rattle.axi.proofs.Sizes.{Power, bytes_power}
use Rattle.answers.specs.Join.{total, no_read, join_reads, join_codes}
use Rattle.answers.specs.ReadLanes.{byte, word, on_lane, part_codes, part_answers, JoinsLaneByLane}
use Rattle.answers.proofs.FirstErrors.{joins_to_first_error}

-- what lane k carries of four lanes from lane f on
abbrev carried : ℕ → ℕ → ℕ → (ℕ → ℕ) → ℕ → ℕ
carried f l d other k = cond (leb f k && ltb k (f + l)) (byte d (k - f)) (other k)

-- the bytes of one part on the lower four lanes, on the upper four, and on all eight
low_four : (d : ℕ) → word (carried 0 4 d (λ k. 0)) 8 ≡ d % 2 ^ 32 * 2 ^ 0
low_four d = omega arith

high_four : (d : ℕ) → word (carried 4 4 d (λ k. 0)) 8 ≡ d % 2 ^ 32 * 2 ^ 32
high_four d = omega arith

all_eight : (d : ℕ) → word (carried 0 8 d (λ k. 0)) 8 ≡ d % 2 ^ 64 * 2 ^ 0
all_eight d = omega arith

-- two parts on four lanes each
both_fours : (d e : ℕ) → word (carried 0 4 d (carried 4 4 e (λ k. 0))) 8 ≡ bit_or (d % 2 ^ 32 * 2 ^ 0) (e % 2 ^ 32 * 2 ^ 32)
both_fours d e =
    let low : d % 2 ^ 32 * 2 ^ 0 < 2 ^ 32 = omega arith in
    let sum : word (carried 0 4 d (carried 4 4 e (λ k. 0))) 8 ≡ e % 2 ^ 32 * 2 ^ 32 + d % 2 ^ 32 * 2 ^ 0 = omega arith in
    sum ∙ sym (or_shifted_r (e % 2 ^ 32) 32 (d % 2 ^ 32 * 2 ^ 0) low)

-- a beat of a forwarded burst is no wider than the upper bus
second : (t u : Bool) (rest : Verdict) → cond t ReservedKind (cond u WiderThanUpper rest) ≡ Forwarded → u ≡ false
second true u rest e = let z : ◌≡◌ {A = ℕ} 0 1 = cc in absurd (omega arith)
second false true rest e = let z : ◌≡◌ {A = ℕ} 0 1 = cc in absurd (omega arith)
second false false rest e = refl

pub within_upper : (p : Plan) (b : Burst) → verdict_of p b ≡ Forwarded → bytes b ≤ upper_bytes p
within_upper p b e = ltb-false (upper_bytes p) (bytes b) (second _ _ _ e)

-- the one part of a beat, joined with nothing
one_part : (w : Widths) (v : Level) (a d : ℕ) → let p : Plan = record { widths = w; level = v } in
    word (carried (lane p a) (lower_bytes p) d (λ k. 0)) 8 ≡ d % 2 ^ (8 * lower_bytes p) * 2 ^ (8 * lane p a)
one_part FourOverFour v a d =
    let e : a % 4 - a % 4 ≡ 0 = omega arith in
    ap (λ f. word (carried f 4 d (λ k. 0)) 8) e ∙ low_four d ∙ sym (ap (λ f. d % 2 ^ 32 * 2 ^ (8 * f)) e)
one_part EightOverFour v a d =
    elim (cases_lt (a % 8) 4) [
      | inl h ↦ let e : a % 8 - a % 4 ≡ 0 = omega arith in
          ap (λ f. word (carried f 4 d (λ k. 0)) 8) e ∙ low_four d ∙ sym (ap (λ f. d % 2 ^ 32 * 2 ^ (8 * f)) e)
      | inr h ↦ let e : a % 8 - a % 4 ≡ 4 = omega arith in
          ap (λ f. word (carried f 4 d (λ k. 0)) 8) e ∙ high_four d ∙ sym (ap (λ f. d % 2 ^ 32 * 2 ^ (8 * f)) e)
    ]
one_part EightOverEight v a d =
    let e : a % 8 - a % 8 ≡ 0 = omega arith in
    ap (λ f. word (carried f 8 d (λ k. 0)) 8) e ∙ all_eight d ∙ sym (ap (λ f. d % 2 ^ 64 * 2 ^ (8 * f)) e)

-- the two parts of a beat of eight bytes over a bus of four
two_parts : (v : Level) (a d e : ℕ) → a % 8 < 4 → let p : Plan = record { widths = EightOverFour; level = v } in let b = down a 4 + 4 in
    word (carried (lane p a) 4 d (carried (lane p b) 4 e (λ k. 0))) 8 ≡ bit_or (d % 2 ^ 32 * 2 ^ (8 * lane p a)) (e % 2 ^ 32 * 2 ^ (8 * lane p b))
two_parts v a d e h =
    let b = down a 4 + 4 in
    let low : a % 8 - a % 4 ≡ 0 = omega arith in
    let high : b % 8 - b % 4 ≡ 4 = omega arith in
    ap₂ (λ f g. word (carried f 4 d (carried g 4 e (λ k. 0))) 8) low high ∙ both_fours d e
    ∙ sym (ap₂ (λ f g. bit_or (d % 2 ^ 32 * 2 ^ (8 * f)) (e % 2 ^ 32 * 2 ^ (8 * g))) low high)

-- the data of parts at these addresses, joined, lie lane by lane
abbrev LaneByLane : Plan → List ℕ → Type 0
LaneByLane p ats = (rs : List LowerRead) → length ats ≤ length rs → (total no_read join_reads (part_answers p ats rs)).rdata ≡ word (on_lane p ats rs) 8

alone : (p : Plan) (a : ℕ) → LaneByLane p (a ∷ [])
alone p a [] h = absurd (omega arith)
alone p a (r ∷ rs) h = or_zero_r (raised p a r.lrdata) ∙ sym (one_part p.widths p.level a r.lrdata)

pair : (v : Level) (a : ℕ) → a % 8 < 4 → LaneByLane (record { widths = EightOverFour; level = v }) (a ∷ (down a 4 + 4) ∷ [])
pair v a h [] f = absurd (omega arith)
pair v a h (r ∷ []) f = absurd (omega arith)
pair v a h (r ∷ q ∷ rs) f =
    let p : Plan = record { widths = EightOverFour; level = v } in
    ap (bit_or (raised p a r.lrdata)) (or_zero_r (raised p (down a 4 + 4) q.lrdata)) ∙ sym (two_parts v a r.lrdata q.lrdata h)

-- a beat no wider than the lower bus is one part
single : (p : Plan) (s a : ℕ) → s ≤ lower_bytes p → LaneByLane p (places p s a)
single p s a h =
    let t : leb s (lower_bytes p) ≡ true = grind (arith, nat_tests) in
    subst (LaneByLane p) (sym (ap (λ t. cond t (a ∷ []) (a ∷ multiples (lower_bytes p) a (down a s + s))) t)) (alone p a)

-- a beat of eight bytes over a bus of four is one part or two
eight_over_four : (v : Level) (a : ℕ) → LaneByLane (record { widths = EightOverFour; level = v }) (a ∷ multiples 4 a (down a 8 + 8))
eight_over_four v a =
    let p : Plan = record { widths = EightOverFour; level = v } in
    elim (cases_lt (a % 8) 4) [
      | inl h ↦ let one : (down a 8 + 8 - 1) / 4 - a / 4 ≡ 1 = omega arith in
          subst (λ k. LaneByLane p (a ∷ row k (down a 4 + 4) 4)) (sym one) (pair v a h)
      | inr h ↦ let none : (down a 8 + 8 - 1) / 4 - a / 4 ≡ 0 = omega arith in
          subst (λ k. LaneByLane p (a ∷ row k (down a 4 + 4) 4)) (sym none) (alone p a)
    ]

-- eight is the one power of two above four and not above eight
only_eight : (k : ℕ) → k ≤ 8 → 4 < 2 ^ k → 2 ^ k ≤ 8 → 2 ^ k ≡ 8
only_eight zero s h f = absurd (omega arith)
only_eight (suc zero) s h f = absurd (omega arith)
only_eight (suc (suc zero)) s h f = absurd (omega arith)
only_eight (suc (suc (suc zero))) s h f = refl
only_eight (suc (suc (suc (suc zero)))) s h f = absurd (omega arith)
only_eight (suc (suc (suc (suc (suc zero))))) s h f = absurd (omega arith)
only_eight (suc (suc (suc (suc (suc (suc zero)))))) s h f = absurd (omega arith)
only_eight (suc (suc (suc (suc (suc (suc (suc zero))))))) s h f = absurd (omega arith)
only_eight (suc (suc (suc (suc (suc (suc (suc (suc zero)))))))) s h f = absurd (omega arith)
only_eight (suc (suc (suc (suc (suc (suc (suc (suc (suc k))))))))) s h f = absurd (omega arith)

wide : (w : Widths) (v : Level) (s a : ℕ) → Power s → let p : Plan = record { widths = w; level = v } in
    s ≤ upper_bytes p → lower_bytes p < s → LaneByLane p (places p s a)
wide FourOverFour v s a k h f = absurd (omega arith)
wide EightOverEight v s a k h f = absurd (omega arith)
wide EightOverFour v s a k h f =
    let p : Plan = record { widths = EightOverFour; level = v } in
    let is : s ≡ 8 = k.is ∙ only_eight k.exponent k.small (rw k.is at f) (rw k.is at h) in
    subst (λ n. LaneByLane p (places p n a)) (sym is) (eight_over_four v a)

pub data_lane_by_lane : (p : Plan) (b : Burst) (a : ℕ) → verdict_of p b ≡ Forwarded → LaneByLane p (places p (bytes b) a)
data_lane_by_lane p b a e =
    elim (cases_lt (lower_bytes p) (bytes b)) [
      | inl h ↦ wide p.widths p.level (bytes b) a (bytes_power b) (within_upper p b e) h
      | inr h ↦ single p (bytes b) a h
    ]

-- the code of joined answers is the first error among the parts' codes
codes_joined : (p : Plan) (ats : List ℕ) (rs : List LowerRead) → (total no_read join_reads (part_answers p ats rs)).code ≡ total Okay join_codes (part_codes ats rs)
codes_joined p [] rs = refl
codes_joined p (a ∷ ats) [] = refl
codes_joined p (a ∷ ats) (r ∷ rs) = ap (join_codes (read_code r.lrresp)) (codes_joined p ats rs)

pub joins_lane_by_lane : (p : Plan) → JoinsLaneByLane p
joins_lane_by_lane p b a rs e h =
    let ats = places p (bytes b) a in
    let bits = data_lane_by_lane p b a e rs h in
    let code = codes_joined p ats rs ∙ joins_to_first_error (part_codes ats rs) in
    λ i. record { rdata = bits i; code = code i }
