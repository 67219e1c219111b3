-- An edge takes from the parts that the writer has yet to send just what crosses on LAW or LW.
use mathlib.Core.Path.{◌≡◌, refl, sym, ap, ◌∙◌}
use mathlib.Core.Bool.{Bool, true, false, cond, not, ◌&&◌, ◌||◌}
use mathlib.Core.List.{List, [], ◌∷◌, ◌++◌, map, append_assoc}
use Prim.Native.Nat.{ℕ, zero, suc}
use lib.ListN.{drop}
use Rattle.ledgers.specs.Pieces.{Pieces}
use Rattle.ledgers.specs.Joining.{Joining}
use Rattle.ledgers.specs.Lists.{just_if, less_if}
use Rattle.ledgers.specs.Wires.{Inputs}
use Rattle.ledgers.specs.Due.{parts, due_parts}
use Rattle.ledgers.specs.Writer.{Side, pick, Writer, valid_on, shown_on, takes_burst, takes_beat, with_parts, sent, move}
use Rattle.ledgers.specs.Writer.Side.{law_side, lw_side}
use Rattle.ledgers.specs.Writer.Writer.{idle, fetch, send, await, close}
use Rattle.ledgers.proofs.WriterRest.{parts_then, rest_parts}

pub pick_or : (v : Side) (a d r t : Bool) → pick v (a || r) (d || t) ≡ (pick v a d || pick v r t)
pick_or law_side a d r t = refl
pick_or lw_side a d r t = refl

-- a part crosses on one channel, or waits
side_crosses : {A B : Type 0} (f : A → B) (z : B) (p : A) (more : List A) (a r : Bool) →
    map f (just_if (not a) p ++ more) ≡ just_if (not a && r) (cond a z (f p)) ++ map f (just_if (not (a || r)) p ++ more)
side_crosses f z p more true r = refl
side_crosses f z p more false true = refl
side_crosses f z p more false false = refl

module _ (K : Pieces) (J : Joining K) where
  with_parts_leaves : (v : Side) (b : K.Burst) (n : ℕ) (m : J.writes.Sum) (ps : List K.WritePart) (bs : List K.Burst)
      (ws : List K.Beat) →
      rest_parts K J v (with_parts K J b n m ps) bs ws ≡ ps ++ parts_then K b n bs ws
  with_parts_leaves v b zero m [] bs ws = refl
  with_parts_leaves v b (suc n) m [] bs ws = refl
  with_parts_leaves law_side b n m (p ∷ ps) bs ws = refl
  with_parts_leaves lw_side b n m (p ∷ ps) bs ws = refl

  sent_leaves : (v : Side) (b : K.Burst) (n : ℕ) (m : J.writes.Sum) (p : K.WritePart) (ps : List K.WritePart) (a d : Bool)
      (bs : List K.Burst) (ws : List K.Beat) →
      rest_parts K J v (sent K J b n m p ps a d) bs ws ≡ just_if (not (pick v a d)) p ++ (ps ++ parts_then K b n bs ws)
  sent_leaves law_side b n m p ps true true bs ws = refl
  sent_leaves lw_side b n m p ps true true bs ws = refl
  sent_leaves v b n m p ps true false bs ws = refl
  sent_leaves v b n m p ps false true bs ws = refl
  sent_leaves v b n m p ps false false bs ws = refl

  await_leaves : (v : Side) (b : K.Burst) (n : ℕ) (m m' : J.writes.Sum) (p : K.WritePart) (ps : List K.WritePart)
      (bs : List K.Burst) (ws : List K.Beat) (c : Bool) →
      ps ++ parts_then K b n bs ws ≡ rest_parts K J v (cond c (with_parts K J b n m' ps) (await b n m p ps)) bs ws
  await_leaves v b n m m' p ps bs ws true = sym (with_parts_leaves v b n m' ps bs ws)
  await_leaves v b n m m' p ps bs ws false = refl

  close_leaves : (v : Side) (b : K.Burst) (m : J.writes.Sum) (bs : List K.Burst) (ws : List K.Beat) (c : Bool) →
      due_parts K bs ws ≡ rest_parts K J v (cond c idle (close b m)) bs ws
  close_leaves v b m bs ws true = refl
  close_leaves v b m bs ws false = refl

  -- q and d wait, bs and ws are to come; f is the part's payload on the channel, z what is shown while VALID is low
  pub parts_cross : (v : Side) {A : Type 0} (f : K.WritePart → A) (z : A) (e : Writer K J) (q : List K.Burst)
      (d : List K.Beat) (r : Bool) (x : Inputs K)
      (bs : List K.Burst) (ws : List K.Beat) →
      map f (rest_parts K J v e (q ++ bs) (d ++ ws)) ≡
      just_if (valid_on v e && pick v x.lawready x.lwready) (shown_on v z f e) ++
      map f (rest_parts K J v (move K J e q d r x) (less_if (takes_burst e) q ++ bs) (less_if (takes_beat e) d ++ ws))
  parts_cross v f z idle [] d r x bs ws = refl
  parts_cross v f z idle (b ∷ q) d r x bs ws = refl
  parts_cross v f z (fetch b n m) q [] r x bs ws = refl
  parts_cross v f z (fetch b n m) q (w ∷ d) r x bs ws =
      ap (map f)
      (append_assoc (K.cut b n w) (parts K b n (d ++ ws)) (due_parts K (q ++ bs) (drop n (d ++ ws)))
      ∙ sym (with_parts_leaves v b n m (K.cut b n w) (q ++ bs) (d ++ ws)))
  parts_cross v f z (send b n m p ps y s) q d r x bs ws =
      side_crosses f z p (ps ++ parts_then K b n (q ++ bs) (d ++ ws)) (pick v y s) (pick v x.lawready x.lwready) ∙
      simp (sent_leaves, pick_or)
  parts_cross v f z (await b n m p ps) q d r x bs ws =
      ap (map f) (await_leaves v b n m (J.writes.join m (J.writes.clean p x.lb)) p ps (q ++ bs) (d ++ ws) x.lbvalid)
  parts_cross v f z (close b m) q d r x bs ws = ap (map f) (close_leaves v b m (q ++ bs) (d ++ ws) r)
