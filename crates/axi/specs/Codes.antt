-- Response codes, and how one from the block is read.
use Rattle.std.specs.Prelude.{ℕ, cond, ◌==◌, nat_le}
use Rattle.axi.specs.declared.code.Code.{Code}
use Rattle.axi.specs.declared.code.Code.TheVariants.{Okay, SlvErr, DecErr}

abbrev pub code_number : Code → ℕ
code_number Okay = 0
code_number SlvErr = 2
code_number DecErr = 3

-- 0 OKAY, 2 SLVERR, 3 DECERR; a code 1, EXOKAY, counts as OKAY. Above 3 a code never crosses.
abbrev pub read_code : ℕ → Code
read_code n = cond (nat_le n 1) Okay (cond (n == 2) SlvErr DecErr)
