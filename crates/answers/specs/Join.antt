-- How answers join.
use Rattle.std.specs.Prelude.{ℕ, List, [], ◌∷◌, bit_or}
use Rattle.axi.specs.Codes.{read_code}
use Rattle.parts.specs.Lanes.{raised}
use Rattle.axi.specs.declared.plan.Plan.{Plan}
use Rattle.axi.specs.declared.code.Code.{Code}
use Rattle.axi.specs.declared.code.Code.TheVariants.{Okay, SlvErr, DecErr}
use Rattle.axi.specs.declared.wires.LowerRead.{LowerRead}
use Rattle.answers.specs.declared.read.ReadAnswer.{ReadAnswer}

-- the first code unless it is OKAY, then the second
abbrev pub join_codes : Code → Code → Code
join_codes Okay d = d
join_codes SlvErr d = SlvErr
join_codes DecErr d = DecErr

-- no data and OKAY
abbrev pub no_read : ReadAnswer
no_read = record { rdata = 0; code = Okay }

-- data by bitwise or, codes as above
abbrev pub join_reads : ReadAnswer → ReadAnswer → ReadAnswer
join_reads a b = record { rdata = bit_or a.rdata b.rdata; code = join_codes a.code b.code }

-- what the answer to a read part at address a counts for: its data on its own lanes, and its code as read
abbrev pub part_answer : Plan → ℕ → LowerRead → ReadAnswer
part_answer p a r = record { rdata = raised p a r.lrdata; code = read_code r.lrresp }

-- all answers of a list, joined in order
abbrev pub total : {X : Type 0} → X → (X → X → X) → List X → X
total none join [] = none
total none join (x ∷ xs) = join x (total none join xs)
