use Rattle.std.proofs.Common.{◌≡◌, ◌+◌, [], ◌∷◌, drop, vec_items, sym, ◌∙◌, append-nil}
use Rattle.std.proofs.lemmas.List.{at_drop_all}
use Rattle.std.proofs.lemmas.Slice.{pushed}
use Rattle.transcript.proofs.Rows.{row_more, space_before, end_after}
use Rattle.transcript.specs.Printing.{row, separator_to}
use Rattle.transcript.specs.Printing.Base.{Hex}
use Rattle.transcript.proofs.print.numbers.Goals.{then-i-vs, else-i-vs}
use Rattle.transcript.proofs.print.numbers.Goals as goal

pub loop-i-preserved : goal.loop-i-preserved
loop-i-preserved c =
    let vs = c.args.vs.now in
    let i = c.loop-i.i in
    let sep = c.if-i-vs.push in
    let is : sep ≡ separator_to (drop (i + 1) vs) =
    elim c.if-i-vs.branch [ then-i-vs w ↦ w.push-is ∙ sym (space_before vs (i + 1) w.if-i-vs.true) | else-i-vs w ↦ w.push-is ∙ sym (end_after vs (i + 1) w.if-i-vs.false) ] in
    let added = pushed (sep ∷ []) c.in_ok-number.ensures c.in_ok-push.was c.push.ensures.items in
    row_more Hex vs i sep (vec_items c.loop-i.out) (vec_items c.push.new.self) c.loop-i-test.true is added ∙ c.loop-i.invariant

pub returns : goal.returns
returns c =
    let vs = c.args.vs.now in
    let e : row Hex (drop c.loop-i.i vs) ≡ [] = at_drop_all (row Hex) vs c.loop-i.i c.loop-i-test.false in
    let n = append-nil (vec_items c.loop-i.out) in
    let h = c.loop-i.invariant in
    cc
