-- The address of each beat of a burst.
use Rattle.std.specs.Prelude.{◌≡◌, ℕ, ◌+◌, ◌-◌, ◌*◌, ◌%◌, ◌^◌, cond, ◌==◌}
use Rattle.axi.specs.Bursts.{bytes, beats, kind_of}
use Rattle.axi.specs.Verdicts.{verdict_of}
use Rattle.axi.specs.declared.burst.Burst.{Burst}
use Rattle.axi.specs.declared.burst.Kind.{Kind}
use Rattle.axi.specs.declared.burst.Kind.TheVariants.{Fixed, Incr, Wrap, Reserved}
use Rattle.axi.specs.declared.plan.Plan.{Plan}
use Rattle.axi.specs.declared.verdict.Verdict.TheVariants.{Forwarded}
use Rattle.parts.specs.declared.walk.Walk.{Walk}

-- a, brought down to a multiple of n
abbrev pub down : ℕ → ℕ → ℕ
down a n = a - a % n

-- INCR: the first beat is at ADDR as it stands, beat i from 1 on at ADDR brought down to a multiple of S, and i beats on
abbrev pub incremented : ℕ → ℕ → ℕ → ℕ
incremented a s i = cond (i == 0) a (down a s + i * s)

-- WRAP: i beats on from ADDR, round within the aligned block of t bytes
abbrev pub wrapped : ℕ → ℕ → ℕ → ℕ → ℕ
wrapped a s t i = down a t + (a - down a t + i * s) % t

-- the address of beat i of a burst of n beats of s bytes from address a
abbrev pub address : Kind → ℕ → ℕ → ℕ → ℕ → ℕ
address Fixed a s n i = a
address Incr a s n i = incremented a s i
address Wrap a s n i = wrapped a s (n * s) i
address Reserved a s n i = a

abbrev pub beat_address : Burst → ℕ → ℕ
beat_address b i = address (kind_of b.burst) b.addr (bytes b) (beats b) i

-- what 32 address wires carry of it; the beats of a forwarded burst lie below 2 ^ 32, and are carried whole
abbrev pub on_bus : ℕ → ℕ
on_bus a = a % 2 ^ 32

-- the number, from 0, of the beat that so many others follow
abbrev pub beat_number : Burst → ℕ → ℕ
beat_number b follow = b.len - follow

-- all beats of a burst
abbrev pub begun : Burst → Walk
begun b = record { burst = b; count = beats b }

-- the address of the next beat of a walk
abbrev pub here : Walk → ℕ
here w = on_bus (beat_address w.burst (beat_number w.burst (w.count - 1)))

-- a is the next beat's address whole, if any settings forward the burst
abbrev pub CarriedWhole : Walk → ℕ → Type 0
CarriedWhole w a = (p : Plan) → verdict_of p w.burst ≡ Forwarded → a ≡ beat_address w.burst (beat_number w.burst (w.count - 1))

-- the beats after it
abbrev pub left : Walk → Walk
left w = record { burst = w.burst; count = w.count - 1 }
