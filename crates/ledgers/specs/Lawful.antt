-- What joining has to satisfy for a bridge that computes with it to keep the promise.
use Rattle.std.specs.Prelude.{◌≡◌, Bool, true, List, ℕ, length}
use Rattle.ledgers.specs.Pieces.{Pieces}
use Rattle.ledgers.specs.Lists.{covers}
use Rattle.ledgers.specs.Joining.{Summing, Joining, gather}

-- joining does not depend on how sums are grouped, and the sum of no response adds nothing
pub record SumLaws {Part Code : Type 0} (S : Summing Part Code) : Type 0 where
  pub left : (x : S.Sum) → S.join S.none x ≡ x
  pub right : (x : S.Sum) → S.join x S.none ≡ x
  pub assoc : (x y z : S.Sum) → S.join (S.join x y) z ≡ S.join x (S.join y z)

-- the sums are such, and the answers made of them are those that are due, for bursts as judged and wherever every part has its response
pub record Lawful (K : Pieces) (J : Joining K) : Type 0 where
  pub writes : SumLaws J.writes
  pub reads : SumLaws J.reads
  -- the answer to a write burst with any parts
  pub answers : (x : K.Raw) (ps : List K.WritePart) (cs : List K.WriteCode) → covers (length ps) cs ≡ true →
      K.due_answer (K.judge x) ps cs ≡ J.answer (K.judge x) (gather J.writes ps cs)
  -- a read beat with the parts that it is cut into
  pub beats : (x : K.Raw) (n : ℕ) (cs : List K.ReadCode) (l : Bool) → covers (length (K.rcut (K.judge x) n)) cs ≡ true →
      K.due_got (K.judge x) (K.rcut (K.judge x) n) cs l ≡ J.got (K.judge x) (gather J.reads (K.rcut (K.judge x) n) cs) l
  -- a read beat has the LAST that it is made with
  pub last : (b : K.Burst) (m : J.reads.Sum) (l : Bool) → K.last (J.got b m l) ≡ l
