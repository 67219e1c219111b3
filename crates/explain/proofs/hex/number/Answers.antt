use Rattle.std.proofs.Common.{◌+◌, ◌*◌, drop, ◌∙◌, arith}
use Rattle.explain.proofs.Digits.{after_grows, after_digit}
use Rattle.explain.proofs.hex.number.Goals as goal

-- past the largest already: the digits to come make it no smaller
pub returns-then-value-from : goal.returns-then-value-from
returns-then-value-from c =
    let step = after_digit c.args.word.now c.loop-byte.byte-index c.loop-byte.value c.in-Some.d c.loop-byte-test.true c.in-Some.ensures in
    record {
      value = λ v e. omega (arith, after_grows (drop (c.loop-byte.byte-index + 1) c.args.word.now) (c.loop-byte.value * 16 + c.in-Some.d) v (step ∙ c.loop-byte.invariant.1 ∙ e));
      why = omega arith;
    }
