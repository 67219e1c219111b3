-- The read engine begins with the first beat, and goes on where a beat is to come.
use Rattle.std.proofs.Common.{◌≡◌, ℕ, zero, suc, ◌+◌, ◌-◌, ap, arith}
use Rattle.ledgers.specs.Pieces.{Pieces}
use Rattle.ledgers.specs.Joining.{Joining}
use Rattle.ledgers.specs.Reader.{start_beat, next_beat}

pub goes_on : (K : Pieces) (J : Joining K) (b : K.Burst) (n : ℕ) → (n ≡ 0 → ⊥) → start_beat K J b (n - 1) ≡ next_beat K J b n
goes_on K J b zero h = absurd (omega arith)
goes_on K J b (suc k) h = let less : suc k - 1 ≡ k = omega arith in ap (start_beat K J b) less

pub begins : (K : Pieces) (J : Joining K) (b : K.Burst) (m n : ℕ) → m ≡ n + 1 → start_beat K J b (m - 1) ≡ start_beat K J b n
begins K J b m n h = let less : m - 1 ≡ n = omega arith in ap (start_beat K J b) less
