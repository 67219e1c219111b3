-- The addresses of a beat's parts on the lower bus.
use Rattle.std.specs.Prelude.{◌≡◌, ℕ, zero, suc, ◌+◌, ◌-◌, ◌/◌, ◌%◌, ◌<◌, cond, ◌⊎◌, List, [], ◌∷◌, Some, None, Option, ◌==◌, nat_le}
use Rattle.axi.specs.Plans.{lower_bytes}
use Rattle.parts.specs.Addresses.{down, on_bus}
use Rattle.axi.specs.declared.plan.Plan.{Plan}
use Rattle.parts.specs.declared.cut.Parts.{Parts}

-- k addresses from a on, l apart
abbrev pub row : ℕ → ℕ → ℕ → List ℕ
row zero a l = []
row (suc k) a l = a ∷ row k (a + l) l

-- each multiple of l above a and below the end, upward
abbrev pub multiples : ℕ → ℕ → ℕ → List ℕ
multiples l a end = row ((end - 1) / l - a / l) (down a l + l) l

-- a beat of s bytes at address a is one part at a, where s is at most L;
-- else its parts are at a and at each multiple of L above a within the beat's aligned block of s bytes
abbrev pub places : Plan → ℕ → ℕ → List ℕ
places p s a = cond (nat_le s (lower_bytes p)) (a ∷ []) (a ∷ multiples (lower_bytes p) a (down a s + s))

-- x stands in the list
abbrev pub Among : ℕ → List ℕ → Type 0
Among x [] = ⊥
Among x (y ∷ ys) = (x ≡ y) ⊎ Among x ys

-- each address is below all that follow it
abbrev pub Ascends : List ℕ → Type 0
Ascends [] = Unit {0}
Ascends (x ∷ xs) = ((y : ℕ) → Among y xs → x < y) × Ascends xs

-- x is a multiple of L above a, within the aligned block of s bytes that a lies in
abbrev pub Within : Plan → ℕ → ℕ → ℕ → Type 0
Within p s a x = (a < x) × (x < down a s + s) × (x % lower_bytes p ≡ 0)

-- xs is the parts of a beat of s bytes at address a: a, and just the multiples of L above it within its block, upward
pub record Parted (p : Plan) (s a : ℕ) (xs : List ℕ) : Type 0 where
  pub only : (x : ℕ) → Among x xs → (x ≡ a) ⊎ Within p s a x
  pub all : (x : ℕ) → (x ≡ a) ⊎ Within p s a x → Among x xs
  pub upward : Ascends xs

-- how many bytes follow a, within the aligned block of s bytes that it lies in
abbrev pub bytes_after : ℕ → ℕ → ℕ
bytes_after s a = s - 1 - a % s

-- the first address above a that is a multiple of L
abbrev pub next_place : Plan → ℕ → ℕ
next_place p a = on_bus (down a (lower_bytes p) + lower_bytes p)

-- the addresses after a that a cursor at a still comes to
abbrev pub further : Plan → ℕ → ℕ → List ℕ
further p a zero = []
further p a (suc k) = next_place p a ∷ further p (next_place p a) k

-- the addresses that a cursor stands for: its own and those that follow
abbrev pub at_places : Plan → Parts → List ℕ
at_places p c = c.at ∷ further p c.at c.more

abbrev pub next_parts : Plan → Parts → Option Parts
next_parts p c = cond (c.more == 0) None (Some (record { at = next_place p c.at; more = c.more - 1 }))
