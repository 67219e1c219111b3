use Rattle.std.proofs.Common.{◌<◌, ◌^◌, slice_index_or, arith, rules}
use Rattle.std.proofs.Output.{has_written_append, has_written_of_eq}
use Rattle.transcript.proofs.Numbers.{known, number, spaced_more}
use Rattle.transcript.proofs.crossing.write_numbers.Goals as goal

pub loop-number-preserved : goal.loop-number-preserved
loop-number-preserved g c =
    let i = c.loop-number.number-index in
    let vs = c.args.numbers.now in
    let few : slice_index_or vs i 0 < 2 ^ 64 = omega (arith, c.type_inv.numbers i) in
    let text = number _ (slice_index_or vs i 0) few c.in_radix.ensures in
    λ plain.
    let before = c.loop-number.invariant plain in
    let added = known _ _ _ _ _ _ text c.write.ensures.writes before.plain (search rules) in
    has_written_of_eq _ _ _ _ _ (spaced_more vs i c.loop-number-test.true) (has_written_append _ _ _ _ _ _ before added)
