-- Small facts of tests and of entries that depend on one.
use mathlib.Core.Path.{◌≡◌, refl}
use mathlib.Core.Bool.{Bool, true, false, cond, not, ◌&&◌, ◌||◌}
use mathlib.Core.List.{List, ◌++◌}
use Prim.Native.Nat.{ℕ, ◌+◌, ◌≤◌}
use native.Mathlib.Omega.{arith}
use lib.ListN.{length}
use Rattle.ledgers.specs.Lists.{one_if, just_if}

pub never : {P : Type 0} → false ≡ true → P
never {P} e = let z : ◌≡◌ {A = ℕ} 0 1 = cc in absurd (omega arith)

pub and_right : (x y : Bool) → (x && y) ≡ true → y ≡ true
and_right true y h = h
and_right false y h = never h

-- where the test fails it does not matter what would stand if it held
pub cond_if : {A : Type 0} (c : Bool) (x y z : A) → (c ≡ true → x ≡ y) → cond c x z ≡ cond c y z
cond_if true x y z f = f refl
cond_if false x y z f = refl

pub length_just_if : {A : Type 0} (c : Bool) (x : A) → length (just_if c x) ≡ one_if c
length_just_if true x = refl
length_just_if false x = refl

pub none_of : (c : Bool) → one_if (c && false) ≡ 0
none_of true = refl
none_of false = refl

pub nothing_from : {A : Type 0} (v : Bool) (c : A) (cs : List A) → just_if (v && false) c ++ cs ≡ cs
nothing_from true c cs = refl
nothing_from false c cs = refl

pub one_at_most : (c : Bool) → one_if (c && true) ≤ 1
one_at_most true = omega arith
one_at_most false = omega arith

-- what had happened, and what happens now if it had not, is what has happened
pub one_more : (y r : Bool) → one_if y + one_if (not y && r) ≡ 0 + one_if (y || r)
one_more true r = refl
one_more false true = refl
one_more false false = refl

pub still_waits : {A : Type 0} (z u : A) (y r : Bool) → not y ≡ true → r ≡ false → ((y || r) ≡ false) × (cond y z u ≡ u)
still_waits z u true r h k = never h
still_waits z u false r h k = (k, refl)
