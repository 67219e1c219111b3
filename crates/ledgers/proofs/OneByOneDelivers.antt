-- The bridge with one part under way at a time delivers what is due on LAW, LW and LAR, and on B and R what is made of sums.
use mathlib.Core.Path.{◌≡◌, refl, ap, ◌∙◌}
use mathlib.Core.Bool.{◌&&◌}
use mathlib.Core.List.{List, [], ◌++◌, map, append_assoc}
use Rattle.ledgers.specs.Pieces.{Pieces}
use Rattle.ledgers.specs.Joining.{Joining}
use Rattle.ledgers.specs.Lawful.{Lawful}
use Rattle.ledgers.specs.Lists.{just_if, less_if, Begins}
use Rattle.ledgers.specs.Wires.{Inputs}
use Rattle.ledgers.specs.Ledgers.{Ledgers, blank, crossing, extend}
use Rattle.ledgers.specs.Due.{due_parts, all_places, due_rparts}
use Rattle.ledgers.specs.Writer.{Side, pick, valid_on, shown_on}
use Rattle.ledgers.specs.Writer.Side.{law_side, lw_side}
use Rattle.ledgers.specs.OneByOne.{Slots, State, answer_room, beat_room, shown, step, one_by_one}
use Rattle.ledgers.proofs.Queues.{leaves_first}
use Rattle.ledgers.proofs.Columns.{Column}
use Rattle.ledgers.proofs.Delivers.{Delivers}
use Rattle.ledgers.proofs.JoinedDue.{joined_answers, joined_beats}
use Rattle.ledgers.proofs.WriterRest.{rest_parts, rest_answers}
use Rattle.ledgers.proofs.WriterParts.{parts_cross}
use Rattle.ledgers.proofs.WriterAnswers.{answers_given}
use Rattle.ledgers.proofs.ReaderRest.{rest_rparts, rest_beats}
use Rattle.ledgers.proofs.ReaderParts.{rparts_cross}
use Rattle.ledgers.proofs.ReaderBeats.{beats_given}

module _ (K : Pieces) (J : Joining K) (sl : Slots) where
  -- LAW AND LW: v is the channel, f the part's payload on it, z what is shown there while VALID is low
  module _ (v : Side) {A : Type 0} (f : K.WritePart → A) (z : A) where
    abbrev parts_left : State K J → Ledgers K → List A
    parts_left s l = map f (rest_parts K J v s.writer (s.write_bursts ++ l.AW) (s.write_beats ++ l.W))

    abbrev part_crossing : State K J → Inputs K → List A
    part_crossing s x = just_if (valid_on v s.writer && pick v x.lawready x.lwready) (shown_on v z f s.writer)

    parts_at_edge : (s : State K J) (x : Inputs K) (l : Ledgers K) →
        parts_left s (extend K (crossing K x (shown K J sl s)) l) ≡ part_crossing s x ++ parts_left (step K J sl s x) l
    parts_at_edge s x l =
        let c = crossing K x (shown K J sl s) in
        simp append_assoc (parts_cross K J v f z s.writer s.write_bursts s.write_beats (answer_room K J sl s) x (c.AW ++ l.AW) (c.W ++ l.W))

    on_side : (crossed : Ledgers K → List A) → Column K crossed →
        ((s : State K J) (x : Inputs K) → part_crossing s x ≡ crossed (crossing K x (shown K J sl s))) →
        Delivers K (one_by_one K J sl) (λ l. map f (due_parts K l.AW l.W)) crossed
    on_side crossed col same = record {
      left = parts_left;
      at_making = λ l. refl;
      at_edge = λ s x l. parts_at_edge s x l ∙ ap (λ u. u ++ parts_left (step K J sl s x) l) (same s x);
      column = col;
    }

  pub on_law : Delivers K (one_by_one K J sl) (λ l. map K.at (due_parts K l.AW l.W)) (λ l. l.LAW)
  on_law = on_side law_side K.at K.no_at (λ l. l.LAW) (record { none = refl; grows = λ l c. refl }) (λ s x. refl)

  pub on_lw : Delivers K (one_by_one K J sl) (λ l. map K.lane (due_parts K l.AW l.W)) (λ l. l.LW)
  on_lw = on_side lw_side K.lane K.no_lane (λ l. l.LW) (record { none = refl; grows = λ l c. refl }) (λ s x. refl)

  -- LAR
  pub on_lar : Delivers K (one_by_one K J sl) (λ l. map K.from (due_rparts K (all_places K l.AR))) (λ l. l.LAR)
  on_lar = record {
    left = λ s l. map K.from (rest_rparts K J s.reader (s.read_bursts ++ l.AR));
    at_making = λ f. refl;
    at_edge = λ s x l. let c = crossing K x (shown K J sl s) in
        simp append_assoc (rparts_cross K J s.reader s.read_bursts (beat_room K J sl s) x (c.AR ++ l.AR));
    column = record { none = refl; grows = λ l c. refl };
  }

  -- B AND R
  module _ (L : Lawful K J) where
    pub on_b : Delivers K (one_by_one K J sl) (λ l. joined_answers K J l.AW l.W l.LB) (λ l. l.B)
    on_b = record {
      left = λ s l. s.answers ++ rest_answers K J s.writer (s.write_bursts ++ l.AW) (s.write_beats ++ l.W) l.LB;
      at_making = λ f. refl;
      at_edge = λ s x l. let c = crossing K x (shown K J sl s) in
          simp append_assoc
          (ap (λ u. s.answers ++ u) (answers_given K J L s.writer s.write_bursts s.write_beats (answer_room K J sl s) x (c.AW ++ l.AW) (c.W ++ l.W) l.LB)
          ∙ leaves_first K.no_ans x.bready s.answers _);
      column = record { none = refl; grows = λ l c. refl };
    }

    pub on_r : Delivers K (one_by_one K J sl) (λ l. joined_beats K J (all_places K l.AR) l.LR) (λ l. l.R)
    on_r = record {
      left = λ s l. s.read_beats ++ rest_beats K J s.reader (s.read_bursts ++ l.AR) l.LR;
      at_making = λ f. refl;
      at_edge = λ s x l. let c = crossing K x (shown K J sl s) in
          simp append_assoc
          (ap (λ u. s.read_beats ++ u) (beats_given K J L s.reader s.read_bursts (beat_room K J sl s) x (c.AR ++ l.AR) l.LR)
          ∙ leaves_first K.no_got x.rready s.read_beats _);
      column = record { none = refl; grows = λ l c. refl };
    }

    -- what crosses on B and R waited in a queue
    pub b_waited : (s : State K J) (x : Inputs K) → Begins (crossing K x (shown K J sl s)).B (on_b.left s (blank K))
    unfolding on_b
    b_waited s x =
        let more = rest_answers K J s.writer (s.write_bursts ++ []) (s.write_beats ++ []) [] in
        (less_if x.bready s.answers ++ more, leaves_first K.no_ans x.bready s.answers more)

    pub r_waited : (s : State K J) (x : Inputs K) → Begins (crossing K x (shown K J sl s)).R (on_r.left s (blank K))
    unfolding on_r
    r_waited s x =
        let more = rest_beats K J s.reader (s.read_bursts ++ []) [] in
        (less_if x.rready s.read_beats ++ more, leaves_first K.no_got x.rready s.read_beats more)
