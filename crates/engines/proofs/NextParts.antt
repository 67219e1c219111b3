-- A cursor moved on stands for the addresses after its own.
use Rattle.std.proofs.Common.{◌≡◌, ℕ, zero, suc, ◌-◌, cond, Some, None, refl, ap₂, arith}
use lib.Dec.{eqb-suc-zero}
use Rattle.parts.specs.Parts.{further, next_place, next_parts}
use Rattle.axi.specs.declared.plan.Plan.{Plan}
use Rattle.engines.specs.Cursors.{cursor_places}

pub moved_on : (p : Plan) (at more : ℕ) → cursor_places p (next_parts p (record { at = at; more = more })) ≡ further p at more
moved_on p at zero = refl
moved_on p at (suc k) =
    let less : suc k - 1 ≡ k = omega arith in
    ap₂ (λ t n. cursor_places p (cond t None (Some (record { at = next_place p at; more = n })))) (eqb-suc-zero k) less
