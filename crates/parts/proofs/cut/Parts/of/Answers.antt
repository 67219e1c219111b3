use Rattle.std.proofs.Common.{◌-◌, ◌/◌, ◌%◌, ◌∷◌, sym, ◌∙◌, subst, ap₂, arith}
use Rattle.axi.specs.Bursts.{bytes}
use Rattle.parts.specs.Parts.{further, Parted}
use Rattle.axi.proofs.Sizes.{bytes_power}
use Rattle.parts.proofs.Cuts.{cut_is}
use Rattle.parts.proofs.Multiples.{places_parted}
use Rattle.parts.proofs.cut.Parts.of.Goals as goal

pub returns : goal.returns
returns c =
    let p = c.args.plan in
    let a = c.args.at in
    let s = bytes c.args.b in
    let w = bytes_power c.args.b in
    let e = ap₂ (λ n l. a ∷ further p a ((n - 1 - a % n) / l)) c.bytes-s.ensures.length c.lower.ensures ∙ cut_is p s a w (omega arith) in
    record { which = e; parted = subst (λ xs. Parted p s a xs) (sym e) (places_parted p s a w) }
