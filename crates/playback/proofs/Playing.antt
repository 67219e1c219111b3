-- A playing, gate by gate.
use Rattle.std.proofs.Common.{◌≡◌, ℕ, ◌+◌, List, [], ◌∷◌, ◌++◌, Some, None, Ok, Option, sym, refl, ap, ◌∙◌, append_assoc, append-nil}
use Rattle.std.specs.List.{flat_map}
use Rattle.axi.specs.Checks.{refused_inputs}
use Rattle.axi.specs.declared.wires.Refusal.{Refusal}
use Rattle.bridge.specs.Edges.{Settings, settings}
use Rattle.bridge.specs.Machines.{seen}
use Rattle.bridge.specs.declared.bridge.Bridge.{Bridge}
use Rattle.bridge.specs.declared.bridge.Owed as declared
use Rattle.sections.specs.Values.{GateAt}
use Rattle.transcript.specs.Crossings.{entry_line, edge_lines, there}
use Rattle.playback.specs.Entries.{Stock, driven}
use Rattle.playback.specs.Runs.{Line, Played, StateOf, line_bytes, lines_bytes, numbered, preceded, unless, ended_at, crossing_on, state_after, stock_after, machine_of, played, playing, CrossedOver, Ran}
use Rattle.transcript.specs.declared.crossing.Crossing.{Crossing}
use Rattle.transcript.specs.Endings.{Ending}

pub lines_append : (xs ys : List Line) → lines_bytes (xs ++ ys) ≡ lines_bytes xs ++ lines_bytes ys
lines_append [] ys = refl
lines_append (x ∷ xs) ys = ap (λ (z : List ℕ). line_bytes x ++ z) (lines_append xs ys) ∙ sym (append_assoc (line_bytes x) (lines_bytes xs) (lines_bytes ys))

-- the lines of an edge
pub numbered_bytes : (n : ℕ) (cs : List Crossing) → lines_bytes (numbered n cs) ≡ flat_map (entry_line n) cs
numbered_bytes n [] = refl
numbered_bytes n (c ∷ cs) = ap (λ (z : List ℕ). entry_line n c ++ z) (numbered_bytes n cs)

module _ (σ : Settings) (s : List ℕ) (m : StateOf σ) (e : Stock) (n : ℕ) (g : GateAt) (gs : List GateAt) where
  -- an edge that is played
  played_on : refused_inputs σ.plan (driven e g.bits) ≡ None → played σ s m e n (g ∷ gs) ≡ preceded (numbered n (crossing_on σ m (driven e g.bits))) (played σ s (state_after σ m (driven e g.bits)) (stock_after σ m e (driven e g.bits)) (n + 1) gs)
  unfolding played
  played_on fits =
      ap
      (λ (z : Option Refusal). unless z (ended_at s g.place)
      (preceded (numbered n (crossing_on σ m (driven e g.bits))) (played σ s (state_after σ m (driven e g.bits)) (stock_after σ m e (driven e g.bits)) (n + 1) gs)))
      fits

  -- an edge that is refused
  pub played_off : (r : Refusal) → refused_inputs σ.plan (driven e g.bits) ≡ Some r → played σ s m e n (g ∷ gs) ≡ ended_at s g.place r
  unfolding played
  played_off r refused =
      ap
      (λ (z : Option Refusal). unless z (ended_at s g.place)
      (preceded (numbered n (crossing_on σ m (driven e g.bits))) (played σ s (state_after σ m (driven e g.bits)) (stock_after σ m e (driven e g.bits)) (n + 1) gs)))
      refused

-- a turn: the lines of this edge, and then what is left to play
pub turn : (b t : Bridge) (e f : Stock) (s : List ℕ) (n : ℕ) (g : GateAt) (gs : List GateAt) (cs : List (Option Crossing)) → settings t ≡ settings b → CrossedOver b t e f (driven e g.bits) cs → playing b e s n (g ∷ gs) ≡ preceded (numbered n (there cs)) (playing t f s (n + 1) gs)
turn b t e f s n g gs cs kept over =
    let x = driven e g.bits in
    let σ = settings b in
    let m = seen b.plan b in
    let on = played_on σ s m e n g gs over.fits in
    let states : played σ s (state_after σ m x) (stock_after σ m e x) (n + 1) gs ≡ played σ s (seen b.plan t) (stock_after σ m e x) (n + 1) gs =
    ap (λ (z : StateOf σ). played σ s z (stock_after σ m e x) (n + 1) gs) (sym over.state) in
    let stocks : played σ s (seen b.plan t) (stock_after σ m e x) (n + 1) gs ≡ played σ s (seen b.plan t) f (n + 1) gs =
    ap (λ (z : Stock). played σ s (seen b.plan t) z (n + 1) gs) (sym over.left) in
    let bridges : played σ s (seen b.plan t) f (n + 1) gs ≡ playing t f s (n + 1) gs =
    ap (λ (z : Settings). played z s (seen z.plan t) f (n + 1) gs) (sym kept) in
    on ∙ ap (λ (z : Played). preceded (numbered n (crossing_on σ m x)) z) (states ∙ stocks ∙ bridges) ∙ ap (λ (z : List Crossing). preceded (numbered n z) (playing t f s (n + 1) gs)) (sym over.crossings)

-- the bytes of a turn
pub turn_bytes : (n : ℕ) (cs : List (Option Crossing)) (p q : Played) (before after : List ℕ) → p ≡ preceded (numbered n (there cs)) q → after ≡ before ++ edge_lines n cs → after ++ lines_bytes q.lines ≡ before ++ lines_bytes p.lines
turn_bytes n cs p q before after is added =
    let rest = lines_bytes q.lines in
    let split : lines_bytes p.lines ≡ edge_lines n cs ++ rest =
    ap (λ (z : Played). lines_bytes z.lines) is ∙ lines_append (numbered n (there cs)) q.lines ∙ ap (λ (z : List ℕ). z ++ rest) (numbered_bytes n (there cs)) in
    ap (λ (z : List ℕ). z ++ rest) added ∙ append_assoc before (edge_lines n cs) rest ∙ ap (λ (z : List ℕ). before ++ z) (sym split)

-- no gate is left
pub played_none : (σ : Settings) (s : List ℕ) (m : StateOf σ) (e : Stock) (n : ℕ) (o : declared.Owed) → o.writes ≡ (machine_of σ).writes_owed m → o.reads ≡ (machine_of σ).reads_owed m → played σ s m e n [] ≡ record { lines = []; ending = Ok o }
unfolding played
played_none σ s m e n o writes reads =
    ap (λ (w : ℕ). record { lines = []; ending = Ok (record { writes = w; reads = (machine_of σ).reads_owed m }) }) (sym writes)
    ∙ ap (λ (r : ℕ). record { lines = []; ending = Ok (record { writes = o.writes; reads = r }) }) (sym reads)

-- the playing ends here
pub closed : (p q : Played) (before out : List ℕ) (end : Ending) → out ++ lines_bytes p.lines ≡ before ++ lines_bytes q.lines → p.ending ≡ q.ending → p ≡ record { lines = []; ending = end } → Ran q before out end
closed p q before out end bytes ends is = record {
  bytes = sym (append-nil out) ∙ ap (λ (z : Played). out ++ lines_bytes z.lines) (sym is) ∙ bytes;
  ending = ap (λ (z : Played). z.ending) (sym is) ∙ ends;
}
