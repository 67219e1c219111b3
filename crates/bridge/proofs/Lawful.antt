-- The joinings of codes and of read answers are lawful, and give what is due.
use Rattle.std.proofs.Common.{◌≡◌, ℕ, zero, suc, ◌≤◌, Bool, true, false, cond, List, [], ◌∷◌, map, length, sym, refl, ap, ◌∙◌, arith}
use lib.Bits.{or_zero_r}
use Rattle.answers.specs.Join.{total, join_codes, no_read, join_reads}
use Rattle.answers.specs.FirstError.{first_error}
use Rattle.answers.specs.ReadLanes.{part_answers, due_read, part_codes, on_lane, word}
use Rattle.answers.specs.declared.read.ReadAnswer.{ReadAnswer}
use Rattle.answers.proofs.FirstErrors.{joins_to_first_error, code_right, code_assoc}
use Rattle.answers.specs.OrLaws.{or_assoc}
use Rattle.answers.proofs.ReadWords.{joins_lane_by_lane}
use Rattle.parts.specs.Addresses.{on_bus, beat_address, beat_number}
use Rattle.axi.specs.Bursts.{bytes}
use Rattle.parts.specs.Parts.{places}
use Rattle.axi.specs.Verdicts.{verdict_of, is_forwarded}
use Rattle.axi.specs.declared.plan.Plan.{Plan}
use Rattle.axi.specs.declared.burst.Burst.{Burst}
use Rattle.axi.specs.declared.wires.Place.{Place}
use Rattle.axi.specs.declared.code.Code.TheVariants.{Okay, SlvErr}
use Rattle.axi.specs.declared.verdict.Verdict.{Verdict}
use Rattle.axi.specs.declared.verdict.Verdict.TheVariants.{Forwarded, ReservedKind, WiderThanUpper, FixedTooLong, WrapCount, WrapUnaligned, CrossesBoundary, SeveralBeats, WiderThanLower, NarrowerThanLower, LockedOrCached}
use Rattle.axi.specs.declared.wires.LowerRead.{LowerRead}
use Rattle.axi.specs.declared.wires.ReadBeat.{ReadBeat}
use Rattle.ledgers.specs.Joining.{gather}
use Rattle.ledgers.specs.Lawful.{SumLaws, Lawful}
use Rattle.ledgers.specs.Lists.{covers}
use Rattle.engines.specs.Protocol.{pieces, joining, judged, cut_places, place, WritePart, write_codes, answer_of, due_answer, due_read_beat, read_beat_of}

-- CODES
code_laws : (p : Plan) → SumLaws (joining p).writes
code_laws p = record { left = λ x. refl; right = code_right; assoc = code_assoc }

-- the codes of these parts join to the first error among them
codes_gathered : (p : Plan) (ps : List WritePart) (cs : List ℕ) → gather (joining p).writes ps cs ≡ total Okay join_codes (write_codes ps cs)
codes_gathered p [] cs = refl
codes_gathered p (q ∷ ps) [] = refl
codes_gathered p (q ∷ ps) (c ∷ cs) = ap (join_codes _) (codes_gathered p ps cs)

answer_due : (p : Plan) (x : Burst) (ps : List WritePart) (cs : List ℕ) → due_answer (judged p x) ps cs ≡ answer_of (judged p x) (gather (joining p).writes ps cs)
answer_due p x ps cs = ap (answer_of (judged p x)) (sym (codes_gathered p ps cs ∙ joins_to_first_error (write_codes ps cs)))

-- READ ANSWERS
read_laws : (p : Plan) → SumLaws (joining p).reads
read_laws p = record {
  left = λ x. refl;
  right = λ x i. record { rdata = or_zero_r x.rdata i; code = code_right x.code i };
  assoc = λ x y z i. record { rdata = or_assoc x.rdata y.rdata z.rdata i; code = code_assoc x.code y.code z.code i };
}

-- the answers to parts at these addresses, joined
reads_gathered : (p : Plan) (b : Burst) (ats : List ℕ) (rs : List LowerRead) →
    gather (joining p).reads (map (place b) ats) rs ≡ total no_read join_reads (part_answers p ats rs)
reads_gathered p b [] rs = refl
reads_gathered p b (a ∷ ats) [] = refl
reads_gathered p b (a ∷ ats) (r ∷ rs) = ap (join_reads _) (reads_gathered p b ats rs)

addresses : (b : Burst) (ats : List ℕ) → map (λ (q : Place). q.addr) (map (place b) ats) ≡ ats
addresses b [] = refl
addresses b (a ∷ ats) = ap (λ t. a ∷ t) (addresses b ats)

never : {X : Type 0} → false ≡ true → X
never e = let z : ◌≡◌ {A = ℕ} 0 1 = cc in absurd (omega arith)

forwarded : (v : Verdict) → is_forwarded v ≡ true → v ≡ Forwarded
forwarded Forwarded e = refl
forwarded ReservedKind e = never e
forwarded WiderThanUpper e = never e
forwarded FixedTooLong e = never e
forwarded WrapCount e = never e
forwarded WrapUnaligned e = never e
forwarded CrossesBoundary e = never e
forwarded SeveralBeats e = never e
forwarded WiderThanLower e = never e
forwarded NarrowerThanLower e = never e
forwarded LockedOrCached e = never e

-- a list that covers the parts has as many answers as there are parts
long_enough : {X : Type 0} (n : ℕ) (rs : List X) → covers n rs ≡ true → n ≤ length rs
long_enough zero rs e = omega arith
long_enough (suc n) [] e = never e
long_enough (suc n) (r ∷ rs) e = omega (arith, long_enough n rs e)

length_map : {X Y : Type 0} (f : X → Y) (xs : List X) → length (map f xs) ≡ length xs
length_map f [] = refl
length_map f (x ∷ xs) = ap suc (length_map f xs)

-- a beat of a forwarded burst
forwarded_beat : (p : Plan) (x : Burst) (a : ℕ) (rs : List LowerRead) → verdict_of p x ≡ Forwarded → length (places p (bytes x) a) ≤ length rs →
    let ps = map (place x) (places p (bytes x) a) in
    gather (joining p).reads ps rs ≡ due_read p (map (λ (q : Place). q.addr) ps) rs
forwarded_beat p x a rs e h =
    let ats = places p (bytes x) a in
    reads_gathered p x ats rs ∙ joins_lane_by_lane p x a rs e h ∙ ap (λ l. due_read p l rs) (sym (addresses x ats))

with_last : Burst → Bool → ReadAnswer → ReadBeat
with_last x last m = record { id = x.id; rdata = m.rdata; code = m.code; last = last }

-- whether it is forwarded or not
beat_at : (p : Plan) (x : Burst) (a : ℕ) (rs : List LowerRead) (last t : Bool) → is_forwarded (verdict_of p x) ≡ t →
    let ps = map (place x) (cond t (places p (bytes x) a) []) in
    covers (length ps) rs ≡ true →
    ◌≡◌ {A = ReadBeat}
    (record {
      id = x.id;
      rdata = word (on_lane p (map (λ (q : Place). q.addr) ps) rs) 8;
      code = cond t (first_error (part_codes (map (λ (q : Place). q.addr) ps) rs)) SlvErr;
      last = last;
    })
    (record { id = x.id; rdata = (gather (joining p).reads ps rs).rdata; code = cond t (gather (joining p).reads ps rs).code SlvErr; last = last })
unfolding with_last
beat_at p x a rs last false e h = refl
beat_at p x a rs last true e h =
    let ats = places p (bytes x) a in
    let enough : length ats ≤ length rs = omega (arith, long_enough (length (map (place x) ats)) rs h, length_map (place x) ats) in
    ap (with_last x last) (sym (forwarded_beat p x a rs (forwarded (verdict_of p x) e) enough))

beat_due : (p : Plan) (x : Burst) (n : ℕ) (rs : List LowerRead) (last : Bool) →
    let t = judged p x in
    let ps = map (place x) (cut_places p t n) in
    covers (length ps) rs ≡ true → due_read_beat p t ps rs last ≡ read_beat_of t (gather (joining p).reads ps rs) last
beat_due p x n rs last h = beat_at p x (on_bus (beat_address x (beat_number x n))) rs last (is_forwarded (verdict_of p x)) refl h

pub lawful : (p : Plan) → Lawful (pieces p) (joining p)
lawful p = record {
  writes = code_laws p;
  reads = read_laws p;
  answers = λ x ps cs h. answer_due p x ps cs;
  beats = λ x n rs last h. beat_due p x n rs last h;
  last = λ b m l. refl;
}
