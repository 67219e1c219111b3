-- LAWVALID and LWVALID that are high and do not cross stay high, with their payload.
use mathlib.Core.Path.{◌≡◌, refl, sym, ◌∙◌}
use mathlib.Core.Bool.{Bool, true, false, cond, not, ◌||◌}
use mathlib.Core.List.{List}
use Prim.Native.Nat.{ℕ}
use Rattle.ledgers.specs.Pieces.{Pieces}
use Rattle.ledgers.specs.Joining.{Joining}
use Rattle.ledgers.specs.Wires.{Inputs}
use Rattle.ledgers.specs.Writer.{Side, pick, Writer, valid_on, shown_on, sent, move}
use Rattle.ledgers.specs.Writer.Side.{law_side, lw_side}
use Rattle.ledgers.specs.Writer.Writer.{idle, fetch, send, await, close}
use Rattle.ledgers.proofs.Tests.{never, still_waits}
use Rattle.ledgers.proofs.WriterParts.{pick_or}

-- v is the channel, f the part's payload on it, z what is shown while VALID is low
module _ (K : Pieces) (J : Joining K) {A : Type 0} (v : Side) (z : A) (f : K.WritePart → A) where
  -- the channel shows u under a VALID that is high
  abbrev Shows : Writer K J → A → Type 0
  Shows e u = (valid_on v e ≡ true) × (shown_on v z f e ≡ u)

module _ (K : Pieces) (J : Joining K) {A : Type 0} (z : A) (f : K.WritePart → A) where
  sent_shows : (v : Side) (b : K.Burst) (n : ℕ) (m : J.writes.Sum) (p : K.WritePart) (ps : List K.WritePart)
      (a d : Bool) → pick v a d ≡ false →
      Shows K J v z f (sent K J b n m p ps a d) (f p)
  sent_shows law_side b n m p ps true d h = never (sym h)
  sent_shows law_side b n m p ps false true h = (refl, refl)
  sent_shows law_side b n m p ps false false h = (refl, refl)
  sent_shows lw_side b n m p ps a true h = never (sym h)
  sent_shows lw_side b n m p ps true false h = (refl, refl)
  sent_shows lw_side b n m p ps false false h = (refl, refl)

  send_stays : (v : Side) (b : K.Burst) (n : ℕ) (m : J.writes.Sum) (p : K.WritePart) (ps : List K.WritePart) (a d r t : Bool) →
      not (pick v a d) ≡ true → pick v r t ≡ false → Shows K J v z f (sent K J b n m p ps (a || r) (d || t)) (cond (pick v a d) z (f p))
  send_stays v b n m p ps a d r t h k =
      let w = still_waits z (f p) (pick v a d) (pick v r t) h k in
      let o = sent_shows v b n m p ps (a || r) (d || t) (pick_or v a d r t ∙ w.0) in
      (o.0, o.1 ∙ sym w.1)

  pub part_stays : (v : Side) (e : Writer K J) (q : List K.Burst) (d : List K.Beat) (r : Bool) (x : Inputs K) →
      valid_on v e ≡ true → pick v x.lawready x.lwready ≡ false → Shows K J v z f (move K J e q d r x) (shown_on v z f e)
  part_stays v idle q d r x h k = never h
  part_stays v (fetch b n m) q d r x h k = never h
  part_stays v (send b n m p ps y s) q d r x h k = send_stays v b n m p ps y s x.lawready x.lwready h k
  part_stays v (await b n m p ps) q d r x h k = never h
  part_stays v (close b m) q d r x h k = never h
