-- What a bridge with one part under way at a time computes with: it sums the responses to parts as they come, and makes an answer of the
-- sum.
use Rattle.std.specs.Prelude.{Bool, List, [], ◌∷◌}
use Rattle.ledgers.specs.Pieces.{Pieces}

-- how the responses to parts are summed
pub record Summing (Part Code : Type 0) : Type 1 where
  pub Sum : Type 0
  -- the sum of no response
  pub none : Sum
  -- what the response to a part counts for
  pub clean : Part → Code → Sum
  -- an earlier sum and a later one
  pub join : Sum → Sum → Sum

-- the sum of the responses to these parts, in order, one to a part
abbrev pub gather : {Part Code : Type 0} (S : Summing Part Code) → List Part → List Code → S.Sum
gather S [] cs = S.none
gather S (p ∷ ps) [] = S.none
gather S (p ∷ ps) (c ∷ cs) = S.join (S.clean p c) (gather S ps cs)

-- how the responses are summed for writes and for reads, and the answers made of the sums
pub record Joining (K : Pieces) : Type 1 where
  pub writes : Summing K.WritePart K.WriteCode
  -- the answer to a burst, of the sum over all its parts
  pub answer : K.Burst → writes.Sum → K.Ans
  pub reads : Summing K.ReadPart K.ReadCode
  -- the read beat for a beat of a burst, of the sum over the beat's parts, and whether it is the burst's last
  pub got : K.Burst → reads.Sum → Bool → K.Got
