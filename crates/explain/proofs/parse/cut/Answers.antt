use native.Mathlib.Nat.{sub-zero}
use Rattle.std.proofs.Common.{◌≡◌, ◌==◌, position, Some, None, rules}
use Rattle.std.proofs.lemmas.List.{take_rest}
use Rattle.explain.proofs.Marks.{free_of, cut_at}
use Rattle.explain.proofs.parse.cut.Goals as goal

pub returns-in_err-i : goal.returns-in_err-i
returns-in_err-i c =
    let none : position (λ b. b == c.args.mark) c.args.bytes.now ≡ None = search rules in
    rw c.from_residual.ensures (free_of c.args.bytes.now c.args.mark none)

pub returns : goal.returns
returns c =
    let at : position (λ b. b == c.args.mark) c.args.bytes.now ≡ Some c.in_ok-i.i = search rules in
    simp (sub-zero, take_rest) (cut_at c.args.bytes.now c.args.mark c.in_ok-i.i at)
