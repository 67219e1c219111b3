use Rattle.std.proofs.Common.{◌≡◌, ℕ, ◌/◌, ◌%◌, ◌^◌, ◌<◌, Some, ap, ◌∙◌, List, arith}
use Rattle.transcript.proofs.Digits.{hex_text}
use Rattle.transcript.proofs.Numbers.{known}
use Rattle.transcript.proofs.Wide.{shown}
use Rattle.transcript.specs.Printing.{numeral}
use Rattle.transcript.specs.Printing.Base.{Hex}
use Rattle.transcript.proofs.ending.CountDisplay.fmt.Goals as goal

pub returns-then-high-eq0-clause-writes : goal.returns-then-high-eq0-clause-writes
returns-then-high-eq0-clause-writes g c =
    let v = c.args.self.now.0 in
    let low : v % 2 ^ 64 ≡ v = omega (arith, c.if-high-eq0.true) in
    let text = hex_text (v % 2 ^ 64) (omega arith) ∙ ap (numeral Hex) low in
    known _ _ _ _ _ (numeral Hex v) (c.in_radix.ensures ∙ ap (λ (z : List ℕ). Some z) text) c.write.ensures.writes

pub returns-else-high-eq0-clause-writes : goal.returns-else-high-eq0-clause-writes
returns-else-high-eq0-clause-writes g c =
    let v = c.args.self.now.0 in
    let few : v < 2 ^ 128 = omega arith in
    let some : 0 < v / 2 ^ 64 = omega (arith, c.if-high-eq0.false) in
    let text = shown _ _ _ _ v few some c.in_radix-else-high-eq0.ensures c.in_radix-else-high-eq0-2.ensures c.laid_out.ensures in
    known _ _ _ _ _ (numeral Hex v) text c.write-else-high-eq0.ensures.writes
