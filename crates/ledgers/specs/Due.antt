-- What is due, read off the ledgers alone: the parts due on LAW, LW and LAR, the answers due on B and the beats due on R.
use Rattle.std.specs.Prelude.{Bool, true, false, cond, ◌&&◌, List, [], ◌∷◌, ◌++◌, ℕ, zero, suc, ◌+◌, length, drop}
use Rattle.ledgers.specs.Pieces.{Pieces, beats_of}
use Rattle.ledgers.specs.Lists.{one_if, covers}

-- a read beat that is due: its burst, and how many beats of the burst follow it
pub record Place (K : Pieces) : Type 0 where
  pub burst : K.Burst
  pub following : ℕ

-- LAST is high on the beat that no beat follows
abbrev pub is_last : ℕ → Bool
is_last zero = true
is_last (suc n) = false

module _ (K : Pieces) where
  -- WRITES
  -- the parts in order of the last n beats of a burst; the beats are the first n of ws, and a beat that is not there has no parts
  abbrev pub parts : K.Burst → ℕ → List K.Beat → List K.WritePart
  parts b zero ws = []
  parts b (suc n) [] = []
  parts b (suc n) (w ∷ ws) = K.cut b n w ++ parts b n ws

  -- the parts due for these bursts and beats: each burst takes its beats off the front
  abbrev pub due_parts : List K.Burst → List K.Beat → List K.WritePart
  due_parts [] ws = []
  due_parts (b ∷ bs) ws = parts b (beats_of K b) ws ++ due_parts bs (drop (beats_of K b) ws)

  -- the answers due for these bursts, beats and responses, up to the first burst that lacks a beat or a response
  abbrev pub due_answers : List K.Burst → List K.Beat → List K.WriteCode → List K.Ans
  due_answers [] ws cs = []
  due_answers (b ∷ bs) ws cs =
      let n = beats_of K b in
      let ps = parts b n ws in
      let k = length ps in
      cond (covers n ws && covers k cs) (K.due_answer b ps cs ∷ due_answers bs (drop n ws) (drop k cs)) []

  -- READS
  -- the beat of a burst that n beats follow, and those n beats
  abbrev pub places : K.Burst → ℕ → List (Place K)
  places b zero = record { burst = b; following = zero } ∷ []
  places b (suc n) = record { burst = b; following = suc n } ∷ places b n

  -- all beats of these bursts
  abbrev pub all_places : List K.Burst → List (Place K)
  all_places [] = []
  all_places (b ∷ bs) = places b (K.len b) ++ all_places bs

  -- the parts of a beat
  abbrev pub place_parts : Place K → List K.ReadPart
  place_parts t = K.rcut t.burst t.following

  -- the parts due for these beats
  abbrev pub due_rparts : List (Place K) → List K.ReadPart
  due_rparts [] = []
  due_rparts (t ∷ ts) = place_parts t ++ due_rparts ts

  -- the beats due on R for these beats and answers of parts, up to the first beat that lacks one
  abbrev pub due_beats : List (Place K) → List K.ReadCode → List K.Got
  due_beats [] cs = []
  due_beats (t ∷ ts) cs =
      let ps = place_parts t in
      let k = length ps in
      cond (covers k cs) (K.due_got t.burst ps cs (is_last t.following) ∷ due_beats ts (drop k cs)) []

  -- how many of these beats have LAST
  abbrev pub lasts : List K.Got → ℕ
  lasts [] = 0
  lasts (r ∷ rs) = one_if (K.last r) + lasts rs
