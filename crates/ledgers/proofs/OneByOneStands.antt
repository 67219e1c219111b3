-- THE THEOREM: with a lawful joining, the bridge with one part under way at a time keeps the promise for every run.
use mathlib.Core.Path.{◌∙◌}
use Rattle.ledgers.specs.Pieces.{Pieces}
use Rattle.ledgers.specs.Joining.{Joining}
use Rattle.ledgers.specs.Lawful.{Lawful}
use Rattle.ledgers.specs.Promise.{PromiseStands, earlier}
use Rattle.ledgers.specs.Ledgers.{ledgers}
use Rattle.ledgers.specs.Writer.{closing}
use Rattle.ledgers.specs.Writer.Side.{law_side, lw_side}
use Rattle.ledgers.specs.Reader as read
use Rattle.ledgers.specs.OneByOne.{Slots, answer_room, beat_room, one_by_one}
use Rattle.ledgers.proofs.Queues.{oldest_stays}
use Rattle.ledgers.proofs.Runs.{stays}
use Rattle.ledgers.proofs.Delivers.{crossed_is_due, crossed_was_due}
use Rattle.ledgers.proofs.Balances.{balance, stays_behind}
use Rattle.ledgers.proofs.Judged.{judged}
use Rattle.ledgers.proofs.JoinedDue.{due_answers_are_joined, due_beats_are_joined}
use Rattle.ledgers.proofs.WriterStays.{part_stays}
use Rattle.ledgers.proofs.ReaderStays.{rpart_stays}
use Rattle.ledgers.proofs.OneByOneDelivers.{on_law, on_lw, on_lar, on_b, on_r, b_waited, r_waited}
use Rattle.ledgers.proofs.OneByOneBalances.{lb_behind_law, lb_behind_lw, lb_late, lr_behind_lar, lr_late, writes, reads}

pub one_by_one_stands : {K : Pieces} {J : Joining K} → Lawful K J → (sl : Slots) → PromiseStands K (one_by_one K J sl)
one_by_one_stands {K} {J} L sl run =
    let M = one_by_one K J sl in
    let was = ledgers K M (earlier run) in
    let j = judged K M (earlier run) in
    let answers = crossed_was_due K M (on_b K J sl L) (b_waited K J sl L) run in
    let beats = crossed_was_due K M (on_r K J sl L) (r_waited K J sl L) run in
    record {
      law_due = crossed_is_due K M (on_law K J sl) run;
      lw_due = crossed_is_due K M (on_lw K J sl) run;
      lar_due = crossed_is_due K M (on_lar K J sl) run;
      lb_after_law = stays_behind K M (lb_behind_law K J sl) (lb_late K J sl law_side) run;
      lb_after_lw = stays_behind K M (lb_behind_lw K J sl) (lb_late K J sl lw_side) run;
      lr_after_lar = stays_behind K M (lr_behind_lar K J sl) (lr_late K J sl) run;
      b_due = (answers.0, due_answers_are_joined K J L j.0 was.W was.LB ∙ answers.1);
      r_due = (beats.0, due_beats_are_joined K J L j.1 was.LR ∙ beats.1);
      writes_count = balance K M (writes K J sl) run;
      reads_count = balance K M (reads K J sl L) run;
      b_stays = stays K M (λ x. x.bready) (λ o. o.bvalid) (λ o. o.b)
          (λ s x. oldest_stays K.no_ans s.answers (closing K J s.writer (answer_room K J sl s)) x.bready) run;
      r_stays = stays K M (λ x. x.rready) (λ o. o.rvalid) (λ o. o.r)
          (λ s x. oldest_stays K.no_got s.read_beats (read.closing K J s.reader (beat_room K J sl s)) x.rready) run;
      law_stays = stays K M (λ x. x.lawready) (λ o. o.lawvalid) (λ o. o.law)
          (λ s x. part_stays K J K.no_at K.at law_side s.writer s.write_bursts s.write_beats (answer_room K J sl s) x) run;
      lw_stays = stays K M (λ x. x.lwready) (λ o. o.lwvalid) (λ o. o.lw)
          (λ s x. part_stays K J K.no_lane K.lane lw_side s.writer s.write_bursts s.write_beats (answer_room K J sl s) x) run;
      lar_stays = stays K M (λ x. x.larready) (λ o. o.larvalid) (λ o. o.lar)
          (λ s x. rpart_stays K J s.reader s.read_bursts (beat_room K J sl s) x) run;
    }
