-- The data of a read beat, lane by lane.
use Rattle.std.specs.Prelude.{◌≡◌, ℕ, zero, suc, ◌+◌, ◌-◌, ◌*◌, ◌/◌, ◌%◌, ◌^◌, ◌≤◌, Bool, cond, ◌&&◌, List, [], ◌∷◌, length, nat_le, nat_lt}
use Rattle.axi.specs.Codes.{read_code}
use Rattle.axi.specs.Plans.{lower_bytes}
use Rattle.axi.specs.Bursts.{bytes}
use Rattle.axi.specs.Verdicts.{verdict_of}
use Rattle.parts.specs.Parts.{places}
use Rattle.parts.specs.Lanes.{lane}
use Rattle.axi.specs.declared.plan.Plan.{Plan}
use Rattle.axi.specs.declared.burst.Burst.{Burst}
use Rattle.axi.specs.declared.verdict.Verdict.TheVariants.{Forwarded}
use Rattle.axi.specs.declared.code.Code.{Code}
use Rattle.axi.specs.declared.wires.LowerRead.{LowerRead}
use Rattle.answers.specs.Join.{part_answer, total, no_read, join_reads}
use Rattle.answers.specs.FirstError.{first_error}
use Rattle.answers.specs.declared.read.ReadAnswer.{ReadAnswer}

-- byte k of a word
abbrev pub byte : ℕ → ℕ → ℕ
byte d k = d / 2 ^ (8 * k) % 256

-- whether a part at address a uses lane k of the upper bus
abbrev pub uses : Plan → ℕ → ℕ → Bool
uses p a k = nat_le (lane p a) k && nat_lt k (lane p a + lower_bytes p)

-- what lane k carries of the parts at these addresses, answered in order: the byte of the part that uses it, or 0 where none does
abbrev pub on_lane : Plan → List ℕ → List LowerRead → ℕ → ℕ
on_lane p [] rs k = 0
on_lane p (a ∷ ats) [] k = 0
on_lane p (a ∷ ats) (r ∷ rs) k = cond (uses p a k) (byte r.lrdata (k - lane p a)) (on_lane p ats rs k)

-- the word of the n lanes that carry these bytes
abbrev pub word : (ℕ → ℕ) → ℕ → ℕ
word f zero = 0
word f (suc k) = word f k + f k * 2 ^ (8 * k)

-- the codes that answer parts at these addresses, one to a part
abbrev pub part_codes : List ℕ → List LowerRead → List Code
part_codes [] rs = []
part_codes (a ∷ ats) [] = []
part_codes (a ∷ ats) (r ∷ rs) = read_code r.lrresp ∷ part_codes ats rs

-- what is due of a read beat: on each lane the byte of the part that uses it, and the first error among its parts' codes
abbrev pub due_read : Plan → List ℕ → List LowerRead → ReadAnswer
due_read p ats rs = record { rdata = word (on_lane p ats rs) 8; code = first_error (part_codes ats rs) }

-- what the answers to parts at these addresses count for, one to a part
abbrev pub part_answers : Plan → List ℕ → List LowerRead → List ReadAnswer
part_answers p [] rs = []
part_answers p (a ∷ ats) [] = []
part_answers p (a ∷ ats) (r ∷ rs) = part_answer p a r ∷ part_answers p ats rs

-- For every beat of a forwarded burst: its parts' answers, joined in order, are what is due of the beat.
abbrev pub JoinsLaneByLane : Plan → Type 0
JoinsLaneByLane p =
    (b : Burst) (a : ℕ) (rs : List LowerRead) → verdict_of p b ≡ Forwarded → length (places p (bytes b) a) ≤ length rs →
    total no_read join_reads (part_answers p (places p (bytes b) a) rs) ≡ due_read p (places p (bytes b) a) rs
