-- Sections: a count line, and as many lines.
use Rattle.std.specs.Prelude.{ℕ, zero, suc, List, [], ◌∷◌, map, slice_index}
use Rattle.words.specs.Lines.{numbers, headed}
use Rattle.words.specs.Reading.{Read, then}
use Rattle.words.specs.Reading.Read.{got, stop}
use Rattle.words.specs.Cursors.{text}
use Rattle.words.specs.declared.carrier.Carrier.{Carrier}
use Rattle.words.specs.declared.carrier.Carrier.TheVariants.{Bits16}
use Rattle.sections.specs.declared.section.Section.{Section}

-- the numbers of a line, and the place of its first word
pub record Row : Type 0 where
  pub place : ℕ
  pub values : List ℕ

abbrev pub row : List Carrier → List ℕ → ℕ → Read Row
row cs s at = then (numbers cs s at) (λ vs end. got (record { place = at; values = vs }) end)

-- as many lines
abbrev pub rows : List Carrier → ℕ → List ℕ → ℕ → Read (List Row)
rows cs zero s at = got [] at
rows cs (suc n) s at = then (row cs s at) (λ x next. then (rows cs n s next) (λ xs end. got (x ∷ xs) end))

-- the line of a count
abbrev pub count_carriers : List Carrier
count_carriers = Bits16 ∷ []

abbrev pub section : List ℕ → List Carrier → List ℕ → ℕ → Read (List Row)
section due cs s at = then (headed due count_carriers s at) (λ vs next. rows cs (slice_index vs 0) s next)

-- a line, and those after it; none where it does not fit
abbrev pub listed : Read Row → (ℕ → List Row) → List Row
listed (got x next) more = x ∷ more next
listed (stop f) more = []

-- the lines that are left in a section
abbrev pub rows_left : List Carrier → ℕ → List ℕ → ℕ → List Row
rows_left cs zero s at = []
rows_left cs (suc n) s at = listed (row cs s at) (λ next. rows_left cs n s next)

-- the bytes of the script that a section lies in
abbrev pub section_text : {T : _} → Section T → List ℕ
section_text x = text x.lines

abbrev pub section_rows : {T : _} → List Carrier → Section T → List Row
section_rows cs x = rows_left cs x.count (section_text x) x.lines.at

-- what a line stands for, and what the lines that are left in a section do
abbrev pub entry : {X : Type 0} → List Carrier → (Row → X) → List ℕ → ℕ → Read X
entry cs of s at = then (numbers cs s at) (λ vs after. got (of (record { place = at; values = vs })) after)

abbrev pub entries : {T X : Type 0} → List Carrier → (Row → X) → Section T → List X
entries cs of x = map of (section_rows cs x)
