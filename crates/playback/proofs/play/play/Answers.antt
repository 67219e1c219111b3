use Rattle.std.proofs.Common.{sym, subst}
use Rattle.std.proofs.lemmas.Result.{IfOk-weaker}
use Rattle.playback.proofs.Ledgered.{kept_ledgers}
use Rattle.playback.proofs.Pointed.{ends_in}
use Rattle.playback.specs.Laws.{EndsIn}
use Rattle.transcript.specs.Endings.{Ending}
use Rattle.playback.proofs.play.play.Goals as goal

pub returns : goal.returns
returns c =
    let s = c.args.script.now in
    record {
      bytes = c.print.ensures.bytes;
      ending = c.print.ensures.ending;
      ledgers = kept_ledgers s;
      points = IfOk-weaker c.print.result _ _ (λ t e. subst (λ (z : Ending). EndsIn s z) (sym e) (ends_in s)) c.print.ensures.ending;
    }
