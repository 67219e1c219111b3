-- A burst's shape, from its fields.
use Rattle.std.specs.Prelude.{ℕ, ◌+◌, Bool, cond, ◌&&◌, List, [], ◌∷◌, ◌==◌, nat_le, slice_index_or}
use Rattle.axi.specs.declared.burst.Burst.{Burst}
use Rattle.axi.specs.declared.burst.Kind.{Kind}
use Rattle.axi.specs.declared.burst.Kind.TheVariants.{Fixed, Incr, Wrap, Reserved}

-- the bytes of a beat for SIZE 0 to 7 (AMBA AXI specification, burst size encoding)
abbrev pub lengths : List ℕ
lengths = 1 ∷ 2 ∷ 4 ∷ 8 ∷ 16 ∷ 32 ∷ 64 ∷ 128 ∷ []

-- S, the bytes of each beat; a SIZE past the table counts as wider than any bus
abbrev pub bytes : Burst → ℕ
bytes b = slice_index_or lengths b.size 256

-- N, the number of beats
abbrev pub beats : Burst → ℕ
beats b = b.len + 1

-- BURST 0 is FIXED, 1 INCR, 2 WRAP, anything else reserved
abbrev pub kind_of : ℕ → Kind
kind_of n = cond (n == 0) Fixed (cond (n == 1) Incr (cond (n == 2) Wrap Reserved))

-- the largest values: ID 4,095, SIZE 7, BURST 3, LOCK 1, CACHE 15, PROT 7; any ADDR and LEN
abbrev pub burst_fits : Burst → Bool
burst_fits b = nat_le b.id 4095 && (nat_le b.size 7 && (nat_le b.burst 3 && (nat_le b.lock 1 && (nat_le b.cache 15 && nat_le b.prot 7))))
