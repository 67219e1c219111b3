-- Beats with LAST, counted.
use Rattle.std.proofs.Common.{◌≡◌, ℕ, ◌+◌, Bool, true, false, cond, List, [], ◌∷◌, ◌++◌, count_by, refl, arith}
use Rattle.std.proofs.lemmas.List.Recursion.{is_count_by}
use Rattle.axi.specs.declared.wires.ReadBeat.{ReadBeat}
use Rattle.ledgers.specs.Lists.{one_if}
use Rattle.engines.specs.Queues.{lasts_of}

one_more_if : (t : Bool) (n : ℕ) → one_if t + n ≡ cond t (1 + n) n
one_more_if true n = refl
one_more_if false n = omega arith

pub counted : (xs : List ReadBeat) → lasts_of xs ≡ count_by (λ r. r.last) xs
counted xs = is_count_by lasts_of (λ r. r.last) refl (λ r rs. one_more_if r.last (lasts_of rs)) xs

pub append : (xs ys : List ReadBeat) → lasts_of (xs ++ ys) ≡ lasts_of xs + lasts_of ys
append [] ys = omega arith
append (x ∷ xs) ys = omega (arith, append xs ys)
