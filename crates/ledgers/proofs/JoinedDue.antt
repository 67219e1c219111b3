-- With a lawful joining, the answers and read beats that are due for bursts as judged are those made of sums.
use mathlib.Core.Path.{◌≡◌, refl}
use mathlib.Core.Bool.{cond, ◌&&◌}
use mathlib.Core.List.{List, [], ◌∷◌, ◌++◌}
use Prim.Native.Nat.{ℕ, zero, suc}
use lib.ListN.{length, drop}
use Rattle.ledgers.specs.Pieces.{Pieces, beats_of}
use Rattle.ledgers.specs.Lists.{covers}
use Rattle.ledgers.specs.Due.{Place, is_last, parts, due_answers, places, all_places, place_parts, due_beats}
use Rattle.ledgers.specs.Joining.{Joining, gather}
use Rattle.ledgers.specs.Lawful.{Lawful}
use Rattle.ledgers.specs.Reader.{beat}
use Rattle.ledgers.proofs.Tests.{and_right, cond_if}
use Rattle.ledgers.proofs.Judged.{Judged}
use Rattle.ledgers.proofs.Judged.Judged.{none, more}

module _ (K : Pieces) (J : Joining K) where
  -- as due_answers, each made of the sum over its burst's parts
  abbrev pub joined_answers : List K.Burst → List K.Beat → List K.WriteCode → List K.Ans
  joined_answers [] ws cs = []
  joined_answers (b ∷ bs) ws cs =
      let n = beats_of K b in
      let ps = parts K b n ws in
      let k = length ps in
      cond (covers n ws && covers k cs) (J.answer b (gather J.writes ps cs) ∷ joined_answers bs (drop n ws) (drop k cs)) []

  -- as due_beats, each made of the sum over its parts
  abbrev pub joined_beats : List (Place K) → List K.ReadCode → List K.Got
  joined_beats [] cs = []
  joined_beats (t ∷ ts) cs =
      let ps = place_parts K t in
      let k = length ps in
      cond (covers k cs) (beat K J t.burst t.following (gather J.reads ps cs) ∷ joined_beats ts (drop k cs)) []

module _ (K : Pieces) (J : Joining K) (L : Lawful K J) where
  pub due_answers_are_joined : {bs : List K.Burst} → Judged K bs → (ws : List K.Beat) (cs : List K.WriteCode) →
      due_answers K bs ws cs ≡ joined_answers K J bs ws cs
  due_answers_are_joined none ws cs = refl
  due_answers_are_joined (more x {bs} js) ws cs =
      let b = K.judge x in
      let n = beats_of K b in
      let ps = parts K b n ws in
      let k = length ps in
      cond_if (covers n ws && covers k cs)
      (K.due_answer b ps cs ∷ due_answers K bs (drop n ws) (drop k cs))
      (J.answer b (gather J.writes ps cs) ∷ joined_answers K J bs (drop n ws) (drop k cs))
      []
      (λ h i. L.answers x ps cs (and_right (covers n ws) (covers k cs) h) i ∷ due_answers_are_joined js (drop n ws) (drop k cs) i)

  -- the beats due for these places are those made of sums
  abbrev Same : List (Place K) → Type 0
  Same ts = (cs : List K.ReadCode) → due_beats K ts cs ≡ joined_beats K J ts cs

  one_more_place : (x : K.Raw) (n : ℕ) (ts : List (Place K)) → Same ts → Same (record { burst = K.judge x; following = n } ∷ ts)
  one_more_place x n ts same cs =
      let b = K.judge x in
      let ps = K.rcut b n in
      let k = length ps in
      cond_if (covers k cs)
      (K.due_got b ps cs (is_last n) ∷ due_beats K ts (drop k cs))
      (beat K J b n (gather J.reads ps cs) ∷ joined_beats K J ts (drop k cs))
      []
      (λ h i. L.beats x n cs (is_last n) h i ∷ same (drop k cs) i)

  one_more_burst : (x : K.Raw) (n : ℕ) (ts : List (Place K)) → Same ts → Same (places K (K.judge x) n ++ ts)
  one_more_burst x zero ts same = one_more_place x zero ts same
  one_more_burst x (suc n) ts same = one_more_place x (suc n) (places K (K.judge x) n ++ ts) (one_more_burst x n ts same)

  pub due_beats_are_joined : {bs : List K.Burst} → Judged K bs → Same (all_places K bs)
  due_beats_are_joined none = λ cs. refl
  due_beats_are_joined (more x {bs} js) = one_more_burst x (K.len (K.judge x)) (all_places K bs) (due_beats_are_joined js)
