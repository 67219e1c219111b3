use Rattle.std.proofs.Common.{[], ◌∷◌, vec_items, refl, append_assoc}
use Rattle.std.proofs.lemmas.Slice.{pushed}
use Rattle.transcript.proofs.print.word.Goals as goal

pub returns : goal.returns
returns c =
    let text = c.as_bytes.result.now in
    let is = c.as_bytes.ensures in
    let a = pushed text refl c.in_ok-extend_from_slice.was c.extend_from_slice.ensures.items in
    let b = pushed (32 ∷ []) a c.in_ok-push.was c.push.ensures.items in
    let j = append_assoc (vec_items c.args.out.now) text (32 ∷ []) in
    cc
