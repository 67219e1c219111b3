use Rattle.std.proofs.Common.{get_or, arith}
use Rattle.std.proofs.Math.Bool.{and-false}
use Rattle.words.proofs.Digits.{no_number, digit_got, number_more, value_more, below_more, below_top}
use Rattle.words.proofs.hex.value.Goals as goal

pub returns-in_err-digit : goal.returns-in_err-digit
returns-in_err-digit c = simp (no_number c.args.word.now c.loop-b.b-index c.loop-b-test.true c.in_err-digit.ensures, and-false) c.from_residual.ensures

pub overflow_mul-v : goal.overflow_mul-v
overflow_mul-v c = omega (arith, below_top c.loop-b.v c.loop-b.b-index c.loop-b.invariant.small (omega arith))

pub overflow_add-v : goal.overflow_add-v
overflow_add-v c =
    let d = digit_got (get_or c.args.word.now c.loop-b.b-index 0) c.in_ok-digit.field-0 (c.in_ok-digit.ensures) in
    omega (arith, below_top c.loop-b.v c.loop-b.b-index c.loop-b.invariant.small (omega arith), c.from.ensures, d.2)

pub loop-b-preserved : goal.loop-b-preserved
loop-b-preserved c =
    let d = digit_got (get_or c.args.word.now c.loop-b.b-index 0) c.in_ok-digit.field-0 (c.in_ok-digit.ensures) in
    let step = value_more c.args.word.now c.loop-b.b-index c.loop-b-test.true in
    record {
      digits = number_more c.args.word.now c.loop-b.b-index c.loop-b-test.true c.loop-b.invariant.digits d.0;
      value = omega (arith, step, c.from.ensures, d.1, c.loop-b.invariant.value);
      small = below_more c.loop-b.v c.from.result c.loop-b.b-index c.loop-b.invariant.small (omega (arith, c.from.ensures, d.2));
    }
