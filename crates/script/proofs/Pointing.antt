-- Faults point into the script.
use Rattle.std.proofs.Common.{◌≡◌, ℕ, zero, suc, ◌^◌, ◌≤◌, ◌&&◌, eqb, ltb, leb, List, [], ◌∷◌, length, get_or, drop, Ok, Err, codes, Result, refl, arith}
use Rattle.std.proofs.lemmas.List.{length-drop}
use Rattle.std.proofs.lemmas.List.Sums.{prefix_len-le-length}
use Rattle.std.proofs.lemmas.Bool.{leb-false, cond_both}
use Rattle.std.specs.Str.{bytes_eq}
use Rattle.words.specs.Carriers.{bits}
use Rattle.words.specs.Faults.{line_at, fault_at}
use Rattle.words.specs.Lines.{numbers, headed, separator_before}
use Rattle.words.specs.Numbers.{is_number, value_of}
use Rattle.words.specs.Reading.{Read, then}
use Rattle.words.specs.Reading.Read.{got, stop}
use Rattle.script.specs.Scripts.{Contents, master, block, edges, whole, script, outcome}
use Rattle.sections.specs.Sections.{row, rows, section, count_carriers}
use Rattle.sections.specs.Lines.{bridge_carriers, burst_carriers}
use Rattle.sections.specs.Values.{beat_carriers, code_carriers, part_carriers, gate_carriers}
use Rattle.words.specs.Words.{of_word, word_length, word, keyword, number, separator, end}
use Rattle.words.specs.declared.carrier.Carrier.{Carrier}
use Rattle.words.specs.declared.fault.Fault.{Fault}
use Rattle.words.specs.declared.fault.Wrong.{Wrong}
use Rattle.words.specs.declared.fault.Wrong.TheVariants.{NotDue, TooLarge, EndsEarly, Trailing}

abbrev pub Points : List ℕ → Fault → Type 0
Points s f = (f.place ≤ length s) × (f.line ≡ line_at s f.place)

-- a reading stays in the script
abbrev Stays : {X : Type 0} → List ℕ → Read X → Type 0
Stays s (got x at) = at ≤ length s
Stays s (stop f) = Points s f

points_at : (s : List ℕ) (wrong : Wrong) (at : ℕ) → at ≤ length s → Points s (fault_at s wrong at)
points_at s wrong at h = (h, refl)

then_stays : {X Y : Type 0} (s : List ℕ) (reading : Read X) (next : X → ℕ → Read Y) → Stays s reading → ((x : X) (at : ℕ) → at ≤ length s → Stays s (next x at)) → Stays s (then reading next)
then_stays s (got x at) next h more = more x at h
then_stays s (stop f) next h more = h

module _ (s : List ℕ) (at : ℕ) (inside : at ≤ length s) where
  separator_stays : (due : ℕ) → Stays s (separator due s at)
  separator_stays due =
      cond_both (leb (length s) at) _ _ (Stays s) (λ _. points_at s EndsEarly (length s) (omega arith)) (λ more.
      cond_both (eqb (get_or s at 0) due) _ _ (Stays s) (λ _. omega (arith, leb-false (length s) at more)) (λ _. points_at s NotDue at inside))

  word_stays : Stays s (word s at)
  word_stays =
      cond_both (leb (length s) at) _ _ (Stays s) (λ _. points_at s EndsEarly (length s) (omega arith)) (λ _.
      cond_both (eqb (word_length s at) 0) _ _ (Stays s) (λ _. points_at s NotDue at inside) (λ _. omega (arith, prefix_len-le-length of_word (drop at s), length-drop at s)))

  keyword_stays : (due : List ℕ) → Stays s (keyword due s at)
  keyword_stays due = then_stays s (word s at) _ word_stays (λ w after h. cond_both (bytes_eq w due) _ _ (Stays s) (λ _. h) (λ _. points_at s NotDue at inside))

  number_stays : (c : Carrier) → Stays s (number c s at)
  number_stays c = then_stays s (word s at) _ word_stays (λ w after h.
      cond_both (is_number w) _ _ (Stays s) (λ _. cond_both (leb (length w) 16 && ltb (value_of w) (2 ^ bits c)) _ _ (Stays s) (λ _. h) (λ _. points_at s TooLarge at inside)) (λ _. points_at s NotDue at inside))

  end_stays : Stays s (end s at)
  end_stays = cond_both (leb (length s) at) _ _ (Stays s) (λ _. inside) (λ _. points_at s Trailing at inside)

numbers_stay : (cs : List Carrier) (s : List ℕ) (at : ℕ) → at ≤ length s → Stays s (numbers cs s at)
numbers_stay [] s at h = h
numbers_stay (c ∷ cs) s at h =
    then_stays s (number c s at) _ (number_stays s at h c) (λ v at₁ h₁.
    then_stays s (separator (separator_before cs) s at₁) _ (separator_stays s at₁ h₁ (separator_before cs)) (λ _ at₂ h₂.
    then_stays s (numbers cs s at₂) _ (numbers_stay cs s at₂ h₂) (λ vs at₃ h₃. h₃)))

headed_stays : (due : List ℕ) (cs : List Carrier) (s : List ℕ) (at : ℕ) → at ≤ length s → Stays s (headed due cs s at)
headed_stays due cs s at h =
    then_stays s (keyword due s at) _ (keyword_stays s at h due) (λ _ at₁ h₁.
    then_stays s (separator 32 s at₁) _ (separator_stays s at₁ h₁ 32) (λ _ at₂ h₂. numbers_stay cs s at₂ h₂))

rows_stay : (cs : List Carrier) (n : ℕ) (s : List ℕ) (at : ℕ) → at ≤ length s → Stays s (rows cs n s at)
rows_stay cs zero s at h = h
rows_stay cs (suc n) s at h =
    then_stays s (row cs s at) _ (then_stays s (numbers cs s at) _ (numbers_stay cs s at h) (λ vs at₁ h₁. h₁)) (λ x at₁ h₁.
    then_stays s (rows cs n s at₁) _ (rows_stay cs n s at₁ h₁) (λ xs at₂ h₂. h₂))

section_stays : (due : List ℕ) (cs : List Carrier) (s : List ℕ) (at : ℕ) → at ≤ length s → Stays s (section due cs s at)
section_stays due cs s at h = then_stays s (headed due count_carriers s at) _ (headed_stays due count_carriers s at h) (λ vs at₁ h₁. rows_stay cs (get_or vs 0 0) s at₁ h₁)

module _ (s : List ℕ) (at : ℕ) (h : at ≤ length s) where
  master_stays : Stays s (master s at)
  master_stays =
      then_stays s (section (codes "writes") burst_carriers s at) _ (section_stays (codes "writes") burst_carriers s at h) (λ _ at₁ h₁.
      then_stays s (section (codes "beats") beat_carriers s at₁) _ (section_stays (codes "beats") beat_carriers s at₁ h₁) (λ _ at₂ h₂.
      then_stays s (section (codes "reads") burst_carriers s at₂) _ (section_stays (codes "reads") burst_carriers s at₂ h₂) (λ _ at₃ h₃. h₃)))

  block_stays : Stays s (block s at)
  block_stays =
      then_stays s (section (codes "wcodes") code_carriers s at) _ (section_stays (codes "wcodes") code_carriers s at h) (λ _ at₁ h₁.
      then_stays s (section (codes "rparts") part_carriers s at₁) _ (section_stays (codes "rparts") part_carriers s at₁ h₁) (λ _ at₂ h₂. h₂))

  edges_stay : Stays s (edges s at)
  edges_stay =
      then_stays s (section (codes "gates") gate_carriers s at) _ (section_stays (codes "gates") gate_carriers s at h) (λ _ at₁ h₁.
      then_stays s (end s at₁) _ (end_stays s at₁ h₁) (λ _ at₂ h₂. h₂))

whole_stays : (s : List ℕ) → Stays s (whole s)
whole_stays s =
    then_stays s (headed (codes "bridge") bridge_carriers s 0) _ (headed_stays (codes "bridge") bridge_carriers s 0 (omega arith)) (λ _ at₁ h₁.
    then_stays s (master s at₁) _ (master_stays s at₁ h₁) (λ _ at₂ h₂.
    then_stays s (block s at₂) _ (block_stays s at₂ h₂) (λ _ at₃ h₃.
    then_stays s (edges s at₃) _ (edges_stay s at₃ h₃) (λ _ at₄ h₄. h₄))))

-- a fault of the outcome
abbrev pub Pointed : List ℕ → Result Contents Fault → Type 0
Pointed s (Ok c) = Unit {0}
Pointed s (Err f) = Points s f

outcome_points : (s : List ℕ) (reading : Read Contents) → Stays s reading → Pointed s (outcome reading)
outcome_points s (got c at) h = tt
outcome_points s (stop f) h = h

pub script_points : (s : List ℕ) → Pointed s (script s)
unfolding script
script_points s = cond_both (leb (length s) 16384) _ _ (Pointed s) (λ _. outcome_points s (whole s) (whole_stays s)) (λ _. (omega arith, refl))
