-- The pieces of the promise for a plan, from the definitions of bursts, parts, lanes and answers.
use Rattle.std.specs.Prelude.{ℕ, Bool, false, cond, not, List, [], ◌∷◌, map}
use Rattle.ledgers.specs.Pieces.{Pieces}
use Rattle.ledgers.specs.Joining.{Joining}
use Rattle.axi.specs.Bursts.{bytes, burst_fits}
use Rattle.axi.specs.Checks.{beat_fits, code_fits, read_part_fits}
use Rattle.axi.specs.Verdicts.{verdict_of, is_forwarded}
use Rattle.parts.specs.Addresses.{on_bus, beat_address, beat_number}
use Rattle.parts.specs.Parts.{places}
use Rattle.parts.specs.Lanes as lanes
use Rattle.axi.specs.Codes.{read_code}
use Rattle.axi.specs.declared.plan.Plan.{Plan}
use Rattle.axi.specs.declared.burst.Burst.{Burst}
use Rattle.axi.specs.declared.wires.Beat.{Beat}
use Rattle.axi.specs.declared.wires.Place.{Place}
use Rattle.axi.specs.declared.code.Code.{Code}
use Rattle.axi.specs.declared.code.Code.TheVariants.{Okay, SlvErr}
use Rattle.axi.specs.declared.wires.WriteAnswer.{WriteAnswer}
use Rattle.axi.specs.declared.wires.ReadBeat.{ReadBeat}
use Rattle.axi.specs.declared.wires.LowerRead.{LowerRead}
use Rattle.answers.specs.Join.{join_codes, no_read, join_reads, part_answer}
use Rattle.answers.specs.FirstError.{first_error}
use Rattle.answers.specs.ReadLanes.{on_lane, word, part_codes}
use Rattle.answers.specs.declared.read.ReadAnswer.{ReadAnswer}
use Rattle.engines.specs.declared.taken.Taken.{Taken}

-- the burst with the verdict that the plan gives it
abbrev pub judged : Plan → Burst → Taken
judged p b = record { burst = b; verdict = verdict_of p b }

-- what a forwarded burst has, and what a refused one has instead
abbrev pub if_forwarded : {X : Type 0} → Taken → X → X → X
if_forwarded t x other = cond (is_forwarded t.verdict) x other

-- the addresses of the parts of a beat at address a; a beat of a refused burst has no parts
abbrev pub cut_at : Plan → Taken → ℕ → List ℕ
cut_at p t a = if_forwarded t (places p (bytes t.burst) a) []

-- the same for the beat that so many beats of the burst follow
abbrev pub cut_places : Plan → Taken → ℕ → List ℕ
cut_places p t follow = cut_at p t (on_bus (beat_address t.burst (beat_number t.burst follow)))

abbrev pub place : Burst → ℕ → Place
place b a = record { addr = a; prot = b.prot }

-- a write part: what LAW and what LW carry of it
pub record WritePart : Type 0 where
  pub place : Place
  pub lanes : Beat

-- the write part at address a: the address and PROT, and the data and strobes of its lanes
abbrev pub write_part : Plan → Burst → Beat → ℕ → WritePart
write_part p b w a = record { place = place b a; lanes = lanes.write_part p a w }

-- the codes that answer these write parts, one to a part, as they are read
abbrev pub write_codes : List WritePart → List ℕ → List Code
write_codes [] cs = []
write_codes (q ∷ ps) [] = []
write_codes (q ∷ ps) (c ∷ cs) = read_code c ∷ write_codes ps cs

abbrev pub no_place : Place
no_place = record { addr = 0; prot = 0 }

abbrev pub no_beat : Beat
no_beat = record { wdata = 0; wstrb = 0 }

abbrev pub no_answer : WriteAnswer
no_answer = record { id = 0; code = Okay }

abbrev pub no_read_beat : ReadBeat
no_read_beat = record { id = 0; rdata = 0; code = Okay; last = false }

-- a write burst is answered by its ID and the first error among its own parts' codes; a refused one by SLVERR
abbrev pub due_answer : Taken → List WritePart → List ℕ → WriteAnswer
due_answer t ps cs = record { id = t.burst.id; code = if_forwarded t (first_error (write_codes ps cs)) SlvErr }

-- a read beat has its burst's ID, on each lane the byte of the part that uses it, and the first error among its own parts' codes;
-- one of a refused burst has data 0 and SLVERR
abbrev pub due_read_beat : Plan → Taken → List Place → List LowerRead → Bool → ReadBeat
due_read_beat p t ps rs last = record {
  id = t.burst.id;
  rdata = word (on_lane p (map (λ q. q.addr) ps) rs) 8;
  code = if_forwarded t (first_error (part_codes (map (λ q. q.addr) ps) rs)) SlvErr;
  last = last;
}

abbrev pub pieces : Plan → Pieces
pieces p = record {
  Raw = Burst;
  Burst = Taken;
  judge = judged p;
  len = λ t. t.burst.len;
  Beat = Beat;
  WritePart = WritePart;
  At = Place;
  Lane = Beat;
  at = λ q. q.place;
  lane = λ q. q.lanes;
  no_at = no_place;
  no_lane = no_beat;
  cut = λ t follow w. map (write_part p t.burst w) (cut_places p t follow);
  WriteCode = ℕ;
  Ans = WriteAnswer;
  no_ans = no_answer;
  due_answer = due_answer;
  ReadPart = Place;
  from = λ q. q;
  rcut = λ t follow. map (place t.burst) (cut_places p t follow);
  ReadCode = LowerRead;
  Got = ReadBeat;
  no_got = no_read_beat;
  last = λ r. r.last;
  due_got = due_read_beat p;
  bad_burst = λ b. not (burst_fits b);
  bad_beat = λ w. not (beat_fits p w);
  bad_wcode = λ c. not (code_fits c);
  bad_rcode = λ r. not (read_part_fits p r);
}

-- the answer to a burst whose parts' codes join to this one
abbrev pub answer_of : Taken → Code → WriteAnswer
answer_of t m = record { id = t.burst.id; code = if_forwarded t m SlvErr }

-- the read beat of a burst whose parts' answers join to this one
abbrev pub read_beat_of : Taken → ReadAnswer → Bool → ReadBeat
read_beat_of t m last = record { id = t.burst.id; rdata = m.rdata; code = if_forwarded t m.code SlvErr; last = last }

-- what the engines compute with: answers joined one by one
abbrev pub joining : (p : Plan) → Joining (pieces p)
joining p = record {
  writes = record { Sum = Code; none = Okay; clean = λ q c. read_code c; join = join_codes };
  answer = answer_of;
  reads = record { Sum = ReadAnswer; none = no_read; clean = λ q r. part_answer p q.addr r; join = join_reads };
  got = read_beat_of;
}
