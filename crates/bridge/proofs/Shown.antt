-- The payload of a channel that the engine offers is what it shows: under a low VALID none, and none is shown as 0.
use Rattle.std.proofs.Common.{◌≡◌, true, false, refl, unwrap_or}
use Rattle.ledgers.specs.Pieces.{Pieces}
use Rattle.ledgers.specs.Joining.{Joining}
use Rattle.ledgers.specs.Writer as write
use Rattle.ledgers.specs.Writer.Side.{law_side, lw_side}
use Rattle.ledgers.specs.Reader as read
use Rattle.engines.specs.Queues.{when}

pub write_shown : {K : Pieces} {J : Joining K} {A : Type 0} (v : write.Side) (z : A) (f : K.WritePart → A) (w : write.Writer K J) →
    unwrap_or (when (write.valid_on v w) (write.shown_on v z f w)) z ≡ write.shown_on v z f w
write_shown v z f write.Writer.idle = refl
write_shown v z f (write.Writer.fetch b n m) = refl
write_shown law_side z f (write.Writer.send b n m p ps true d) = refl
write_shown law_side z f (write.Writer.send b n m p ps false d) = refl
write_shown lw_side z f (write.Writer.send b n m p ps a true) = refl
write_shown lw_side z f (write.Writer.send b n m p ps a false) = refl
write_shown v z f (write.Writer.await b n m p ps) = refl
write_shown v z f (write.Writer.close b m) = refl

pub read_shown : {K : Pieces} {J : Joining K} (r : read.Reader K J) → unwrap_or (when (read.lar_valid r) (read.lar_shown r)) K.no_at ≡ read.lar_shown r
read_shown read.Reader.idle = refl
read_shown (read.Reader.send b n m p ps) = refl
read_shown (read.Reader.await b n m p ps) = refl
read_shown (read.Reader.close b n m) = refl
