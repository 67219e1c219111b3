-- An edge takes from the parts that the reader has yet to send just what crosses on LAR.
use mathlib.Core.Path.{◌≡◌, refl, ap}
use mathlib.Core.Bool.{Bool, true, false, cond, ◌&&◌}
use mathlib.Core.List.{List, [], ◌∷◌, ◌++◌, map}
use Prim.Native.Nat.{ℕ, zero, suc}
use Rattle.ledgers.specs.Pieces.{Pieces}
use Rattle.ledgers.specs.Joining.{Joining}
use Rattle.ledgers.specs.Lists.{just_if, less_if}
use Rattle.ledgers.specs.Wires.{Inputs}
use Rattle.ledgers.specs.Due.{places, all_places, due_rparts}
use Rattle.ledgers.specs.Reader.{Reader, lar_valid, lar_shown, takes_burst, with_parts, start_beat, next_beat, move}
use Rattle.ledgers.specs.Reader.Reader.{idle, send, await, close}
use Rattle.ledgers.proofs.ReaderRest.{later, rest_rparts}

module _ (K : Pieces) (J : Joining K) where
  with_parts_leaves : (b : K.Burst) (n : ℕ) (m : J.reads.Sum) (ps : List K.ReadPart) (bs : List K.Burst) →
      ps ++ due_rparts K (later K b n bs) ≡ rest_rparts K J (with_parts K J b n m ps) bs
  with_parts_leaves b n m [] bs = refl
  with_parts_leaves b n m (p ∷ ps) bs = refl

  start_leaves : (b : K.Burst) (n : ℕ) (bs : List K.Burst) → due_rparts K (places K b n ++ all_places K bs) ≡ rest_rparts K J (start_beat K J b n) bs
  start_leaves b zero bs = with_parts_leaves b zero J.reads.none (K.rcut b zero) bs
  start_leaves b (suc n) bs = with_parts_leaves b (suc n) J.reads.none (K.rcut b (suc n)) bs

  send_leaves : (b : K.Burst) (n : ℕ) (m : J.reads.Sum) (p : K.ReadPart) (ps : List K.ReadPart) (bs : List K.Burst) (v : Bool) →
      map K.from (rest_rparts K J (send b n m p ps) bs) ≡
      just_if v (K.from p) ++ map K.from (rest_rparts K J (cond v (await b n m p ps) (send b n m p ps)) bs)
  send_leaves b n m p ps bs true = refl
  send_leaves b n m p ps bs false = refl

  await_leaves : (b : K.Burst) (n : ℕ) (m m' : J.reads.Sum) (p : K.ReadPart) (ps : List K.ReadPart) (bs : List K.Burst)
      (v : Bool) →
      ps ++ due_rparts K (later K b n bs) ≡ rest_rparts K J (cond v (with_parts K J b n m' ps) (await b n m p ps)) bs
  await_leaves b n m m' p ps bs true = with_parts_leaves b n m' ps bs
  await_leaves b n m m' p ps bs false = refl

  close_leaves : (b : K.Burst) (n : ℕ) (m : J.reads.Sum) (bs : List K.Burst) (r : Bool) →
      due_rparts K (later K b n bs) ≡ rest_rparts K J (cond r (next_beat K J b n) (close b n m)) bs
  close_leaves b zero m bs true = refl
  close_leaves b (suc n) m bs true = start_leaves b n bs
  close_leaves b n m bs false = refl

  -- q waits, bs is to come
  pub rparts_cross : (e : Reader K J) (q : List K.Burst) (r : Bool) (x : Inputs K) (bs : List K.Burst) →
      map K.from (rest_rparts K J e (q ++ bs)) ≡
      just_if (lar_valid e && x.larready) (lar_shown e) ++ map K.from (rest_rparts K J (move K J e q r x) (less_if (takes_burst e) q ++ bs))
  rparts_cross idle [] r x bs = refl
  rparts_cross idle (b ∷ q) r x bs = ap (map K.from) (start_leaves b (K.len b) (q ++ bs))
  rparts_cross (send b n m p ps) q r x bs = send_leaves b n m p ps (q ++ bs) x.larready
  rparts_cross (await b n m p ps) q r x bs = ap (map K.from) (await_leaves b n m (J.reads.join m (J.reads.clean p x.lr)) p ps (q ++ bs) x.lrvalid)
  rparts_cross (close b n m) q r x bs = ap (map K.from) (close_leaves b n m (q ++ bs) r)
