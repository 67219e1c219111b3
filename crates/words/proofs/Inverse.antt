-- What a reading that gives a value was made of.
use Rattle.std.proofs.Common.{◌≡◌, ℕ, Bool, true, false, cond, refl, arith}
use Rattle.words.specs.Reading.{Read, then}
use Rattle.words.specs.Reading.Read.{got, stop}
use Rattle.words.specs.declared.fault.Fault.{Fault}

pub never_got : {X : Type 0} (f : Fault) (x : X) (after : ℕ) → stop f ≡ got x after → ⊥
never_got f x after e = let z : ◌≡◌ {A = ℕ} 0 1 = cc in omega arith

pub then_got : {X Y : Type 0} (reading : Read X) (next : X → ℕ → Read Y) (y : Y) (end : ℕ) → then reading next ≡ got y end → (x : X) × (at : ℕ) × (reading ≡ got x at) × (next x at ≡ got y end)
then_got (got x at) next y end e = (x, at, refl, e)
then_got (stop f) next y end e = absurd (never_got f y end e)

pub passed : {X : Type 0} (test : Bool) (reading : Read X) (f : Fault) (x : X) (end : ℕ) → cond test reading (stop f) ≡ got x end → (test ≡ true) × (reading ≡ got x end)
passed true reading f x end e = (refl, e)
passed false reading f x end e = absurd (never_got f x end e)
