-- The bridge with one part under way at a time: what it has open on LAW, LW and LAR, and what it owes on B and R.
use mathlib.Core.Path.{◌≡◌, refl, ap}
use mathlib.Core.Bool.{◌&&◌}
use mathlib.Core.List.{List}
use Prim.Native.Nat.{◌≤◌}
use native.Mathlib.Omega.{arith}
use lib.ListN.{length, length-append}
use Rattle.ledgers.specs.Pieces.{Pieces}
use Rattle.ledgers.specs.Joining.{Joining}
use Rattle.ledgers.specs.Lawful.{Lawful}
use Rattle.ledgers.specs.Lists.{one_if}
use Rattle.ledgers.specs.Wires.{Inputs}
use Rattle.ledgers.specs.Ledgers.{Ledgers, crossing}
use Rattle.ledgers.specs.Due.{lasts}
use Rattle.ledgers.specs.Writer.{Side, pick, valid_on}
use Rattle.ledgers.specs.Writer.Side.{law_side, lw_side}
use Rattle.ledgers.specs.OneByOne.{Slots, State, answer_room, beat_room, shown, writes_owed, reads_owed, one_by_one}
use Rattle.ledgers.proofs.Tests.{length_just_if}
use Rattle.ledgers.proofs.Queues.{leaves_before_stays}
use Rattle.ledgers.proofs.Columns.{Column, length_counts}
use Rattle.ledgers.proofs.Balances.{Balances}
use Rattle.ledgers.proofs.WriterRest as write_rest
use Rattle.ledgers.proofs.WriterCounts as write_counts
use Rattle.ledgers.proofs.ReaderRest as read_rest
use Rattle.ledgers.proofs.ReaderCounts as read_counts
use Rattle.ledgers.proofs.ReaderCounts.{lasts_append}

module _ (K : Pieces) (J : Joining K) (sl : Slots) where
  -- LB BEHIND LAW AND LW: v is the channel
  module _ (v : Side) where
    lb_behind : {A : Type 0} (crossed : Ledgers K → List A) → Column K crossed →
        ((s : State K J) (x : Inputs K) → length (crossed (crossing K x (shown K J sl s))) ≡ one_if (valid_on v s.writer && pick v x.lawready x.lwready)) →
        Balances K (one_by_one K J sl) (λ l. length (crossed l)) (λ l. length l.LB) (λ s. write_rest.open_parts K J v s.writer)
    lb_behind crossed col many = record {
      at_making = refl;
      at_edge = λ s x. simp (many, length_just_if) (write_counts.open_after K J v s.writer s.write_bursts s.write_beats (answer_room K J sl s) x);
      more_counts = length_counts K crossed col;
      fewer_counts = length_counts K (λ l. l.LB) (record { none = refl; grows = λ l c. refl });
    }

    -- LB answers a part that was open before the edge
    pub lb_late : (s : State K J) (x : Inputs K) → length (crossing K x (shown K J sl s)).LB ≤ write_rest.open_parts K J v s.writer
    lb_late s x = simp length_just_if (write_counts.answers_an_open_part K J v s.writer x.lbvalid)

  pub lb_behind_law : Balances K (one_by_one K J sl) (λ l. length l.LAW) (λ l. length l.LB) (λ s. write_rest.open_parts K J law_side s.writer)
  lb_behind_law = lb_behind law_side (λ l. l.LAW) (record { none = refl; grows = λ l c. refl }) (λ s x. simp length_just_if)

  pub lb_behind_lw : Balances K (one_by_one K J sl) (λ l. length l.LW) (λ l. length l.LB) (λ s. write_rest.open_parts K J lw_side s.writer)
  lb_behind_lw = lb_behind lw_side (λ l. l.LW) (record { none = refl; grows = λ l c. refl }) (λ s x. simp length_just_if)

  -- LR BEHIND LAR
  pub lr_behind_lar : Balances K (one_by_one K J sl) (λ l. length l.LAR) (λ l. length l.LR) (λ s. read_rest.open_parts K J s.reader)
  lr_behind_lar = record {
    at_making = refl;
    at_edge = λ s x. simp length_just_if (read_counts.open_after K J s.reader s.read_bursts (beat_room K J sl s) x);
    more_counts = length_counts K (λ l. l.LAR) (record { none = refl; grows = λ l c. refl });
    fewer_counts = length_counts K (λ l. l.LR) (record { none = refl; grows = λ l c. refl });
  }

  pub lr_late : (s : State K J) (x : Inputs K) → length (crossing K x (shown K J sl s)).LR ≤ read_rest.open_parts K J s.reader
  lr_late s x = simp length_just_if (read_counts.answers_an_open_part K J s.reader x.lrvalid)

  -- WHAT IS OWED
  pub writes : Balances K (one_by_one K J sl) (λ l. length l.AW) (λ l. length l.B) (writes_owed K J)
  writes = record {
    at_making = refl;
    at_edge = λ s x. simp length-append
        (omega (
          arith,
          write_counts.bursts_after K J s.writer s.write_bursts s.write_beats (answer_room K J sl s) x,
          simp length-append at (ap length (leaves_before_stays K.no_ans x.bready s.answers)),
        ));
    more_counts = length_counts K (λ l. l.AW) (record { none = refl; grows = λ l c. refl });
    fewer_counts = length_counts K (λ l. l.B) (record { none = refl; grows = λ l c. refl });
  }

  pub reads : Lawful K J → Balances K (one_by_one K J sl) (λ l. length l.AR) (λ l. lasts K l.R) (reads_owed K J)
  reads L = record {
    at_making = refl;
    at_edge = λ s x. simp (length-append, lasts_append)
        (omega (
          arith,
          read_counts.bursts_after K J L s.reader s.read_bursts (beat_room K J sl s) x,
          simp lasts_append at (ap (lasts K) (leaves_before_stays K.no_got x.rready s.read_beats)),
        ));
    more_counts = length_counts K (λ l. l.AR) (record { none = refl; grows = λ l c. refl });
    fewer_counts = record { none = refl; grows = λ l c. lasts_append K l.R c.R };
  }
