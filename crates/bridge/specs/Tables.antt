-- Slots for the five tables, and the tables over them.
use Rattle.std.specs.Prelude.{◌≡◌, ℕ, length, replicate}
use Rattle.axi.specs.declared.verdict.Verdict.TheVariants.{Forwarded}
use Rattle.engines.specs.Protocol.{no_beat, no_answer, no_read_beat}
use Rattle.engines.specs.declared.taken.Taken.{Taken}
use Rattle.bridge.specs.declared.bridge.Tables.{Tables}
use Rattle.bridge.specs.declared.slots.Slots.{Slots}

abbrev pub no_burst : Taken
no_burst = record { burst = record { id = 0; addr = 0; len = 0; size = 0; burst = 0; lock = 0; cache = 0; prot = 0 }; verdict = Forwarded }

-- n slots for each table, with no burst, no beat and no answer in them
abbrev pub no_entries : (n : ℕ) → Slots n
no_entries n = record {
  write_bursts = replicate n no_burst;
  data_beats = replicate n no_beat;
  write_answers = replicate n no_answer;
  read_bursts = replicate n no_burst;
  read_beats = replicate n no_read_beat;
}

-- tables of n slots each
pub record SlotsEach (n : ℕ) (t : Tables) : Type 0 where
  pub write_bursts : length t.write_bursts.now ≡ n
  pub data_beats : length t.data_beats.now ≡ n
  pub write_answers : length t.write_answers.now ≡ n
  pub read_bursts : length t.read_bursts.now ≡ n
  pub read_beats : length t.read_beats.now ≡ n

-- tables that hold what these slots hold
pub record Over {n : ℕ} (s : Slots n) (t : Tables) : Type 0 where
  pub write_bursts : t.write_bursts.now ≡ s.write_bursts
  pub data_beats : t.data_beats.now ≡ s.data_beats
  pub write_answers : t.write_answers.now ≡ s.write_answers
  pub read_bursts : t.read_bursts.now ≡ s.read_bursts
  pub read_beats : t.read_beats.now ≡ s.read_beats
