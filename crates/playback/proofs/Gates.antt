-- The gates of a script that is read: how many there are, and where their words stand.
use Rattle.std.proofs.Common.{◌≡◌, ℕ, zero, suc, ◌^◌, ◌<◌, ◌≤◌, eqb, leb, List, [], ◌∷◌, map, length, get_or, Ok, Err, codes, Result, refl, ap, subst, arith, lit<}
use Rattle.std.proofs.lemmas.Bool.{cond_both, leb-false}
use Rattle.std.specs.List.{AllByRecursion}
use Rattle.words.proofs.Inverse.{then_got}
use Rattle.words.proofs.Steps.{numbers_fit, fit_at}
use Rattle.words.specs.Lines.{numbers, headed}
use Rattle.words.specs.Reading.{Read, then}
use Rattle.words.specs.Reading.Read.{got, stop}
use Rattle.script.specs.Scripts.{Contents, master, block, edges, whole, outcome, script}
use Rattle.sections.specs.Sections.{Row, row, rows, section, count_carriers}
use Rattle.sections.specs.Lines.{bridge_carriers}
use Rattle.sections.specs.Values.{GateAt, gate_carriers, gate_of}
use Rattle.words.specs.Words.{word, word_length, keyword, number, separator, end}
use Rattle.words.specs.declared.carrier.Carrier.{Carrier}
use Rattle.words.specs.declared.carrier.Carrier.TheVariants.{Bits10, Bits16}
use Rattle.words.specs.declared.fault.Fault.{Fault}
use Rattle.playback.specs.Laws.{GateWord}

-- what holds of the value that is read
abbrev Given : {X : Type 0} → (X → Type 0) → Read X → Type 0
Given P (got x at) = P x
Given P (stop f) = Unit {0}

given_then : {X Y : Type 0} (P : Y → Type 0) (reading : Read X) (next : X → ℕ → Read Y) → ((x : X) (at : ℕ) → reading ≡ got x at → Given P (next x at)) → Given P (then reading next)
given_then P (got x at) next h = h x at refl
given_then P (stop f) next h = tt

given_more : {X : Type 0} (reading : Read X) (P Q : X → Type 0) → ((x : X) → P x → Q x) → Given P reading → Given Q reading
given_more (got x at) P Q f h = f x h
given_more (stop g) P Q f h = tt

-- the numbers of a row stand at its place
abbrev RowAt : List Carrier → List ℕ → Row → Type 0
RowAt cs s x = (after : ℕ) × (numbers cs s x.place ≡ got x.values after)

row_at : (cs : List Carrier) (s : List ℕ) (at : ℕ) (x : Row) (next : ℕ) → row cs s at ≡ got x next → RowAt cs s x
row_at cs s at x next e =
    let i = then_got (numbers cs s at) (λ vs end. got (record { place = at; values = vs }) end) x next e in
    let is : record { place = at; values = i.0 } ≡ x = cc i.3 in
    (i.1, subst (λ (z : Row). numbers cs s z.place ≡ got z.values i.1) is i.2)

abbrev RowsAt : List Carrier → ℕ → List ℕ → List Row → Type 0
RowsAt cs n s xs = (length xs ≡ n) × AllByRecursion (RowAt cs s) xs

rows_at : (cs : List Carrier) (n : ℕ) (s : List ℕ) (at : ℕ) → Given (RowsAt cs n s) (rows cs n s at)
rows_at cs zero s at = (refl, tt)
rows_at cs (suc n) s at =
    given_then (RowsAt cs (suc n) s) (row cs s at) _ (λ x next e.
    given_then (RowsAt cs (suc n) s) (rows cs n s next) _ (λ xs last e₂.
    let h = subst (Given (RowsAt cs n s)) e₂ (rows_at cs n s next) in
    (ap suc h.0, (row_at cs s at x next e, h.1))))

-- a gate stands at its place, and there are as many as 16 bits count at most
abbrev pub IsGateAt : List ℕ → GateAt → Type 0
IsGateAt s g = GateWord s g.place

abbrev pub GatesAt : List ℕ → List GateAt → Type 0
GatesAt s gs = (length gs < 65536) × AllByRecursion (IsGateAt s) gs

gate_word : (s : List ℕ) (x : Row) → RowAt gate_carriers s x → IsGateAt s (gate_of x)
gate_word s x h =
    let i = then_got (number Bits10 s x.place) _ x.values h.0 h.1 in
    (i.0, i.1, i.2)

gates_are : (s : List ℕ) (xs : List Row) → AllByRecursion (RowAt gate_carriers s) xs → (length (map gate_of xs) ≡ length xs) × AllByRecursion (IsGateAt s) (map gate_of xs)
gates_are s [] h = (refl, tt)
gates_are s (x ∷ xs) h = let more = gates_are s xs h.1 in (ap suc more.0, (gate_word s x h.0, more.1))

abbrev GateRows : List ℕ → List Row → Type 0
GateRows s xs = (length xs < 65536) × AllByRecursion (RowAt gate_carriers s) xs

few_rows : (s : List ℕ) (n next : ℕ) → n < 2 ^ 16 → Given (GateRows s) (rows gate_carriers n s next)
few_rows s n next few = given_more (rows gate_carriers n s next) (RowsAt gate_carriers n s) (GateRows s) (λ xs h. (omega (arith, h.0), h.1)) (rows_at gate_carriers n s next)

section_at : (due : List ℕ) (s : List ℕ) (at : ℕ) → Given (GateRows s) (section due gate_carriers s at)
section_at due s at =
    given_then (GateRows s) (headed due count_carriers s at) _ (λ vs next e.
    let k = then_got (keyword due s at) _ vs next e in
    let sp = then_got (separator 32 s k.1) _ vs next k.3 in
    few_rows s (get_or vs 0 0) next (fit_at count_carriers Bits16 vs (numbers_fit count_carriers s sp.1 vs next sp.3) 0 (lit< tt)))

edges_at : (s : List ℕ) (at : ℕ) → Given (GatesAt s) (edges s at)
edges_at s at =
    given_then (GatesAt s) (section (codes "gates") gate_carriers s at) _ (λ xs at₁ e.
    given_then (GatesAt s) (end s at₁) _ (λ _ at₂ _.
    let h = subst (Given (GateRows s)) e (section_at (codes "gates") s at) in
    let g = gates_are s xs h.1 in
    (omega (arith, g.0, h.0), g.1)))

abbrev ContentsAt : List ℕ → Contents → Type 0
ContentsAt s c = GatesAt s c.gates

whole_at : (s : List ℕ) → Given (ContentsAt s) (whole s)
whole_at s =
    given_then (ContentsAt s) (headed (codes "bridge") bridge_carriers s 0) _ (λ _ at₁ _.
    given_then (ContentsAt s) (master s at₁) _ (λ _ at₂ _.
    given_then (ContentsAt s) (block s at₂) _ (λ _ at₃ _.
    given_then (ContentsAt s) (edges s at₃) _ (λ gs at₄ e. subst (Given (GatesAt s)) e (edges_at s at₃)))))

abbrev OutcomeAt : List ℕ → Result Contents Fault → Type 0
OutcomeAt s (Ok c) = ContentsAt s c
OutcomeAt s (Err f) = Unit {0}

outcome_at : (s : List ℕ) (reading : Read Contents) → Given (ContentsAt s) reading → OutcomeAt s (outcome reading)
outcome_at s (got c at) h = h
outcome_at s (stop f) h = tt

script_at : (s : List ℕ) → OutcomeAt s (script s)
unfolding script
script_at s = cond_both (leb (length s) 16384) _ _ (OutcomeAt s) (λ _. outcome_at s (whole s) (whole_at s)) (λ _. tt)

-- the gates of a script that is read
pub gates_at : (s : List ℕ) (c : Contents) → script s ≡ Ok c → GatesAt s c.gates
gates_at s c e = subst (OutcomeAt s) e (script_at s)

word_inside : (s : List ℕ) (at : ℕ) → Given (λ (w : List ℕ). at ≤ length s) (word s at)
word_inside s at =
    cond_both (leb (length s) at) _ _ (Given (λ (w : List ℕ). at ≤ length s)) (λ _. tt) (λ more.
    cond_both (eqb (word_length s at) 0) _ _ (Given (λ (w : List ℕ). at ≤ length s)) (λ _. tt) (λ _. omega (arith, leb-false (length s) at more)))

-- a gate's word stands in the script
pub gate_inside : (s : List ℕ) (at : ℕ) → GateWord s at → at ≤ length s
gate_inside s at h =
    let i = then_got (word s at) _ h.0 h.1 h.2 in
    subst (Given (λ (w : List ℕ). at ≤ length s)) i.2 (word_inside s at)
