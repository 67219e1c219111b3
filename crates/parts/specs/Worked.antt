-- Worked cases of addresses, parts, lanes and verdicts.
use Rattle.std.specs.Prelude.{◌≡◌, ℕ, ◌-◌, List, [], ◌∷◌, ◌++◌, map}
use Rattle.parts.specs.Addresses.{beat_address}
use Rattle.parts.specs.Lanes.{lane}
use Rattle.parts.specs.Parts.{places}
use Rattle.axi.specs.Verdicts.{verdict_of, verdict_number}
use Rattle.axi.specs.declared.burst.Burst.{Burst}
use Rattle.axi.specs.declared.plan.Level.{Level}
use Rattle.axi.specs.declared.plan.Level.TheVariants.{FullConversion, SimpleConversion, FullProtection}
use Rattle.axi.specs.declared.plan.Plan.{Plan}
use Rattle.axi.specs.declared.plan.Widths.TheVariants.{EightOverFour}

-- what the definitions give, and what is due
pub record Case : Type 0 where
  pub got : List ℕ
  pub due : List ℕ

-- U 8 and L 4
abbrev plan_at : Level → Plan
plan_at v = record { widths = EightOverFour; level = v }

-- BURST, ADDR, SIZE and the number of beats
abbrev burst_with : ℕ → ℕ → ℕ → ℕ → Burst
burst_with kind a size n = record { id = 0; addr = a; len = n - 1; size = size; burst = kind; lock = 0; cache = 0; prot = 0 }

-- each kind, by ADDR, SIZE and the number of beats
abbrev fixed : ℕ → ℕ → ℕ → Burst
fixed = burst_with 0

abbrev incr : ℕ → ℕ → ℕ → Burst
incr = burst_with 1

abbrev wrap : ℕ → ℕ → ℕ → Burst
wrap = burst_with 2

-- the same burst with this CACHE
abbrev cached : ℕ → Burst → Burst
cached c b = record { id = b.id; addr = b.addr; len = b.len; size = b.size; burst = b.burst; lock = b.lock; cache = c; prot = b.prot }

-- these beats of the burst are at these addresses
abbrev beats_at : Burst → List ℕ → List ℕ → Case
beats_at b numbers addresses = record { got = map (beat_address b) numbers; due = addresses }

-- a beat of s bytes at address a has parts at these addresses, from these lanes on
abbrev parts_at : ℕ → ℕ → List ℕ → List ℕ → Case
parts_at s a addresses lanes = let p = plan_at FullConversion in record { got = places p s a ++ map (lane p) (places p s a); due = addresses ++ lanes }

-- the burst has this verdict at this level
abbrev judged_at : Level → Burst → ℕ → Case
judged_at v b number = record { got = verdict_number (verdict_of (plan_at v) b) ∷ []; due = number ∷ [] }

-- the burst has this verdict at level 0
abbrev judged : Burst → ℕ → Case
judged = judged_at FullConversion

-- SIZE 1 is S 2, SIZE 2 is S 4
abbrev pub worked : List Case
worked =
    beats_at (incr 0x1001 2 3) (0 ∷ 1 ∷ 2 ∷ []) (0x1001 ∷ 0x1004 ∷ 0x1008 ∷ [])
    ∷ beats_at (wrap 0x1008 2 4) (0 ∷ 1 ∷ 2 ∷ 3 ∷ []) (0x1008 ∷ 0x100c ∷ 0x1000 ∷ 0x1004 ∷ [])
    ∷ beats_at (fixed 0x1003 1 2) (0 ∷ 1 ∷ []) (0x1003 ∷ 0x1003 ∷ [])
    ∷ parts_at 8 0x1005 (0x1005 ∷ []) (4 ∷ [])
    ∷ judged (incr 0xff8 2 2) 0
    ∷ judged (incr 0xff8 2 3) 6
    ∷ judged (incr 0xffff_fffc 2 1) 0
    ∷ judged (incr 0xffff_fffc 2 2) 6
    ∷ judged (fixed 0x1000 2 16) 0
    ∷ judged (fixed 0x1000 2 17) 3
    ∷ judged (wrap 0x1002 2 3) 4
    ∷ judged (wrap 0x1002 2 4) 5
    ∷ judged_at SimpleConversion (cached 3 (incr 0x1000 1 1)) 0
    ∷ judged_at FullProtection (cached 3 (incr 0x1000 1 1)) 9
    ∷ []

-- every worked case comes out as it is due
abbrev pub WorkedCasesHold : Type 0
WorkedCasesHold = map (λ c. c.got) worked ≡ map (λ c. c.due) worked
