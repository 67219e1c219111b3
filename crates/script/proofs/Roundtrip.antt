-- Sections and the whole script read back.
use Rattle.std.proofs.Common.{◌≡◌, ℕ, suc, ◌<◌, ◌≤◌, true, leb, List, [], ◌∷◌, ◌++◌, map, length, drop, Ok, codes, sym, refl, ap, ◌∙◌, append_assoc, arith}
use Rattle.axi.specs.declared.burst.Burst.{Burst}
use Rattle.axi.specs.declared.wires.Beat.{Beat}
use Rattle.axi.specs.declared.wires.LowerRead.{LowerRead}
use Rattle.std.proofs.lemmas.List.{length-drop, append-nil}
use Rattle.std.proofs.lemmas.Bool.{le-leb, cond-true}
use Rattle.std.specs.List.{flat_map, AllByRecursion}
use Rattle.script.proofs.Back.{ReadOn, on_then, all_of_word, numbers_on, headed_on}
use Rattle.words.specs.Lines.{Fit, headed}
use Rattle.words.specs.Reading.{Read}
use Rattle.words.specs.Reading.Read.{got}
use Rattle.script.specs.Scripts.{MasterEntries, BlockEntries, Contents, master, block, edges, whole, script, outcome}
use Rattle.sections.specs.Sections.{Row, row, rows, section, count_carriers}
use Rattle.sections.specs.Lines.{bridge_carriers, burst_carriers}
use Rattle.sections.specs.Values.{GateAt, beat_carriers, code_carriers, part_carriers, gate_carriers, burst_of, beat_of, code_of, part_of, gate_of}
use Rattle.words.specs.Words.{end}
use Rattle.script.specs.Writing.{Values, Within, SectionFits, values_of, written, line, headed_line, section_lines, master_lines, block_lines, bridge_row, burst_row, beat_row, part_row, number_row}
use Rattle.words.specs.declared.carrier.Carrier.{Carrier}

abbrev numbers_of : Row → List ℕ
numbers_of r = r.values

-- rows with these numbers are read, and a rest of the script is left
record RowsOn (reading : Read (List Row)) (vss : List (List ℕ)) (s rest : List ℕ) : Type 0 where
  found : List Row
  same : map numbers_of found ≡ vss
  on : ReadOn reading found s rest

row_on : (cs : List Carrier) (vs : List ℕ) (s : List ℕ) (at : ℕ) (rest : List ℕ) → Fit cs vs → drop at s ≡ line vs ++ rest → ReadOn (row cs s at) (record { place = at; values = vs }) s rest
row_on cs vs s at rest fit e = on_then _ _ rest (numbers_on cs vs s at rest fit e) (λ at₁ left₁. record { end = at₁; read = refl; left = left₁ })

rows_cons : (cs : List Carrier) (vs : List ℕ) (vss : List (List ℕ)) (s : List ℕ) (at n : ℕ) (mid rest : List ℕ) (first : ReadOn (row cs s at) (record { place = at; values = vs }) s mid) →
    RowsOn (rows cs n s first.end) vss s rest → RowsOn (rows cs (suc n) s at) (vs ∷ vss) s rest
rows_cons cs vs vss s at n mid rest first more = record {
  found = record { place = at; values = vs } ∷ more.found;
  same = ap (λ us. vs ∷ us) more.same;
  on = record { end = more.on.end; read = rw (first.read, more.on.read); left = more.on.left };
}

rows_on : (cs : List Carrier) (vss : List (List ℕ)) (s : List ℕ) (at : ℕ) (rest : List ℕ) → AllByRecursion (Fit cs) vss → drop at s ≡ flat_map line vss ++ rest → RowsOn (rows cs (length vss) s at) vss s rest
rows_on cs [] s at rest fits e = record { found = []; same = refl; on = record { end = at; read = refl; left = e } }
rows_on cs (vs ∷ vss) s at rest fits e =
    let first = row_on cs vs s at (flat_map line vss ++ rest) fits.0 (e ∙ append_assoc (line vs) (flat_map line vss) rest) in
    rows_cons cs vs vss s at (length vss) (flat_map line vss ++ rest) rest first (rows_on cs vss s first.end rest fits.1 first.left)

section_on : (due : List ℕ) (cs : List Carrier) (vss : List (List ℕ)) (s : List ℕ) (at : ℕ) (rest : List ℕ) → 0 < length due → all_of_word due ≡ true → SectionFits cs vss → drop at s ≡ section_lines due vss ++ rest →
    RowsOn (section due cs s at) vss s rest
section_on due cs vss s at rest some all fits e =
    let parted = e ∙ append_assoc (headed_line due (length vss ∷ [])) (flat_map line vss) rest in
    let head = headed_on due count_carriers (length vss ∷ []) s at (flat_map line vss ++ rest) some all (fits.count, tt) parted in
    let more = rows_on cs vss s head.end rest fits.each head.left in
    record { found = more.found; same = more.same; on = record { end = more.on.end; read = rw head.read more.on.read; left = more.on.left } }

-- entries come back from the numbers of their rows
entries_back : {X : Type 0} (make : Row → X) (take-apart : X → List ℕ) → ((r : Row) (x : X) → r.values ≡ take-apart x → make r ≡ x) → (found : List Row) (xs : List X) → map numbers_of found ≡ map take-apart xs → map make found ≡ xs
entries_back make apart back [] [] e = refl
entries_back make apart back [] (x ∷ xs) e = absurd (omega (arith, ap length e))
entries_back make apart back (r ∷ rs) [] e = absurd (omega (arith, ap length e))
entries_back make apart back (r ∷ rs) (x ∷ xs) e =
    let head : r.values ≡ apart x = cc (e) in
    let tail : map numbers_of rs ≡ map apart xs = cc (e) in
    rw (back r x head, entries_back make apart back rs xs tail)

with_values : Row → List ℕ → Row
with_values r vs = record { place = r.place; values = vs }

burst_back : (r : Row) (b : Burst) → r.values ≡ burst_row b → burst_of r ≡ b
unfolding with_values
burst_back r b e = ap (λ vs. burst_of (with_values r vs)) e

beat_back : (r : Row) (b : Beat) → r.values ≡ beat_row b → beat_of r ≡ b
unfolding with_values
beat_back r b e = ap (λ vs. beat_of (with_values r vs)) e

code_back : (r : Row) (n : ℕ) → r.values ≡ number_row n → code_of r ≡ n
unfolding with_values
code_back r n e = ap (λ vs. code_of (with_values r vs)) e

part_back : (r : Row) (p : LowerRead) → r.values ≡ part_row p → part_of r ≡ p
unfolding with_values
part_back r p e = ap (λ vs. part_of (with_values r vs)) e

-- the sections of the master
module _ (m : MasterEntries) (s : List ℕ) (at : ℕ) (mid₁ mid₂ rest : List ℕ) (w : RowsOn (section (codes "writes") burst_carriers s at) (map burst_row m.writes) s mid₁)
    (b : RowsOn (section (codes "beats") beat_carriers s w.on.end) (map beat_row m.beats) s mid₂) (r : RowsOn (section (codes "reads") burst_carriers s b.on.end) (map burst_row m.reads) s rest) where
  master_from : ReadOn (master s at) m s rest
  master_from =
      let p = entries_back burst_of burst_row burst_back w.found m.writes w.same in
      let q = entries_back beat_of beat_row beat_back b.found m.beats b.same in
      let t = entries_back burst_of burst_row burst_back r.found m.reads r.same in
      record { end = r.on.end; read = rw (w.on.read, b.on.read, r.on.read) (λ i. got (record { writes = p i; beats = q i; reads = t i }) r.on.end); left = r.on.left }

module _ (m : MasterEntries) (s : List ℕ) (at : ℕ) (rest : List ℕ) where
  master_on : SectionFits burst_carriers (map burst_row m.writes) → SectionFits beat_carriers (map beat_row m.beats) → SectionFits burst_carriers (map burst_row m.reads) →
      drop at s ≡ master_lines m ++ rest → ReadOn (master s at) m s rest
  master_on fw fb fr e =
      let W : List ℕ = section_lines (codes "writes") (map burst_row m.writes) in
      let B : List ℕ = section_lines (codes "beats") (map beat_row m.beats) in
      let R : List ℕ = section_lines (codes "reads") (map burst_row m.reads) in
      let w = section_on (codes "writes") burst_carriers (map burst_row m.writes) s at ((B ++ R) ++ rest) (omega arith) refl fw (e ∙ append_assoc W (B ++ R) rest) in
      let b = section_on (codes "beats") beat_carriers (map beat_row m.beats) s w.on.end (R ++ rest) (omega arith) refl fb (w.on.left ∙ append_assoc B R rest) in
      let r = section_on (codes "reads") burst_carriers (map burst_row m.reads) s b.on.end rest (omega arith) refl fr b.on.left in
      master_from m s at ((B ++ R) ++ rest) (R ++ rest) rest w b r

-- the sections of the block
module _ (x : BlockEntries) (s : List ℕ) (at : ℕ) (mid rest : List ℕ) (c : RowsOn (section (codes "wcodes") code_carriers s at) (map number_row x.wcodes) s mid)
    (p : RowsOn (section (codes "rparts") part_carriers s c.on.end) (map part_row x.rparts) s rest) where
  block_from : ReadOn (block s at) x s rest
  block_from =
      let q = entries_back code_of number_row code_back c.found x.wcodes c.same in
      let t = entries_back part_of part_row part_back p.found x.rparts p.same in
      record { end = p.on.end; read = rw (c.on.read, p.on.read) (λ i. got (record { wcodes = q i; rparts = t i }) p.on.end); left = p.on.left }

module _ (x : BlockEntries) (s : List ℕ) (at : ℕ) (rest : List ℕ) where
  block_on : SectionFits code_carriers (map number_row x.wcodes) → SectionFits part_carriers (map part_row x.rparts) → drop at s ≡ block_lines x ++ rest → ReadOn (block s at) x s rest
  block_on fc fp e =
      let C : List ℕ = section_lines (codes "wcodes") (map number_row x.wcodes) in
      let P : List ℕ = section_lines (codes "rparts") (map part_row x.rparts) in
      let c = section_on (codes "wcodes") code_carriers (map number_row x.wcodes) s at (P ++ rest) (omega arith) refl fc (e ∙ append_assoc C P rest) in
      let p = section_on (codes "rparts") part_carriers (map part_row x.rparts) s c.on.end rest (omega arith) refl fp c.on.left in
      block_from x s at (P ++ rest) rest c p

-- the gates, and the end
end_on : (s : List ℕ) (at : ℕ) → drop at s ≡ [] → end s at ≡ got tt at
end_on s at e = cond-true (leb (length s) at) _ _ (le-leb (length s) at (omega (arith, length-drop at s, ap length e)))

abbrev bits_of : GateAt → ℕ
bits_of g = g.bits

bits_made : (found : List Row) → map bits_of (map gate_of found) ≡ map code_of found
bits_made [] = refl
bits_made (r ∷ rs) = ap (λ ns. code_of r ∷ ns) (bits_made rs)

record EdgesOn (s : List ℕ) (at : ℕ) (gs : List ℕ) : Type 0 where
  found : List GateAt
  same : map bits_of found ≡ gs
  after : ℕ
  read : edges s at ≡ got found after

edges_from : (gs : List ℕ) (s : List ℕ) (at : ℕ) → RowsOn (section (codes "gates") gate_carriers s at) (map number_row gs) s [] → EdgesOn s at gs
edges_from gs s at g = record {
  found = map gate_of g.found;
  same = bits_made g.found ∙ entries_back code_of number_row code_back g.found gs g.same;
  after = g.on.end;
  read = rw (g.on.read, end_on s g.on.end g.on.left);
}

edges_on : (gs : List ℕ) (s : List ℕ) (at : ℕ) → SectionFits gate_carriers (map number_row gs) → drop at s ≡ section_lines (codes "gates") (map number_row gs) → EdgesOn s at gs
edges_on gs s at fits e = edges_from gs s at (section_on (codes "gates") gate_carriers (map number_row gs) s at [] (omega arith) refl fits (e ∙ sym (append-nil _)))

-- the whole script
record WholeOn (v : Values) (s : List ℕ) : Type 0 where
  found : Contents
  same : values_of found ≡ v
  read : outcome (whole s) ≡ Ok found

module _ (v : Values) (s : List ℕ) (mid₁ mid₂ mid₃ : List ℕ) (h : ReadOn (headed (codes "bridge") bridge_carriers s 0) (bridge_row v) s mid₁) (m : ReadOn (master s h.end) v.master s mid₂)
    (b : ReadOn (block s m.end) v.block s mid₃) (g : EdgesOn s b.end v.gates) where
  whole_from : WholeOn v s
  whole_from = record {
    found = record { upper = v.upper; lower = v.lower; level = v.level; master = v.master; block = v.block; gates = g.found };
    same = λ i. record { upper = v.upper; lower = v.lower; level = v.level; master = v.master; block = v.block; gates = g.same i };
    read = rw (h.read, m.read, b.read, g.read);
  }

module _ (v : Values) (fits : Within v) where
  whole_on : WholeOn v (written v)
  unfolding written
  whole_on =
      let s : List ℕ = written v in
      let M : List ℕ = master_lines v.master in
      let B : List ℕ = block_lines v.block in
      let G : List ℕ = section_lines (codes "gates") (map number_row v.gates) in
      let h = headed_on (codes "bridge") bridge_carriers (bridge_row v) s 0 (M ++ (B ++ G)) (omega arith) refl fits.bridge refl in
      let m = master_on v.master s h.end (B ++ G) fits.writes fits.beats fits.reads h.left in
      let b = block_on v.block s m.end G fits.wcodes fits.rparts m.left in
      let g = edges_on v.gates s b.end fits.gates b.left in
      whole_from v s (M ++ (B ++ G)) (B ++ G) G h m b g

  -- a script written out reads back
  pub script_back : length (written v) ≤ 16384 → (c : Contents) × (values_of c ≡ v) × (script (written v) ≡ Ok c)
  unfolding script
  script_back short = (whole_on.found, whole_on.same, cond-true (leb (length (written v)) 16384) _ _ (le-leb (length (written v)) 16384 short) ∙ whole_on.read)
