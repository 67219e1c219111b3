-- What is read of a line ends behind its first byte.
use Rattle.std.proofs.Common.{◌≡◌, ℕ, ◌-◌, ◌^◌, ◌<◌, ◌≤◌, Bool, true, false, ◌&&◌, eqb, ltb, leb, List, [], ◌∷◌, length, get_or, Ok, codes, sym, ap, subst, arith}
use Rattle.std.proofs.lemmas.Bool.{eqb-false, leb-false, cond_both}
use Rattle.std.specs.Str.{bytes_eq}
use Rattle.axi.specs.declared.plan.Plan.{Plan}
use Rattle.listing.specs.Items.{LineTold}
use Rattle.listing.specs.declared.item.Item.{Item}
use Rattle.listing.specs.declared.item.Item.TheVariants.{Bridge, Burst}
use Rattle.sections.specs.Lines.{bridge_line, burst_line, bridge_carriers, burst_carriers}
use Rattle.words.specs.Lines.{numbers, headed, separator_before}
use Rattle.words.specs.Carriers.{bits}
use Rattle.words.specs.Numbers.{is_number, value_of}
use Rattle.words.specs.Reading.{Read, then}
use Rattle.words.specs.Reading.Read.{got, stop}
use Rattle.words.specs.Words.{word, word_length, keyword, number, separator}
use Rattle.words.specs.declared.carrier.Carrier.{Carrier}
use Rattle.words.specs.declared.carrier.Carrier.TheVariants.{Bits8, Bits16, Bits32}

abbrev Past : {X : Type 0} → ℕ → Read X → Type 0
Past from (got x at) = from < at
Past from (stop f) = Unit {0}

then_past : {X Y : Type 0} (from : ℕ) (reading : Read X) (next : X → ℕ → Read Y) → Past from reading → ((x : X) (at : ℕ) → from < at → Past from (next x at)) → Past from (then reading next)
then_past from (got x at) next h more = more x at h
then_past from (stop f) next h more = tt

module _ (s : List ℕ) (from at : ℕ) (h : from ≤ at) where
  word_past : Past from (word s at)
  word_past =
      cond_both (leb (length s) at) _ _ (Past from) (λ _. tt) (λ _.
      cond_both (eqb (word_length s at) 0) _ _ (Past from) (λ _. tt) (λ some. omega (arith, eqb-false (word_length s at) 0 some)))

  separator_past : (due : ℕ) → Past from (separator due s at)
  separator_past due =
      cond_both (leb (length s) at) _ _ (Past from) (λ _. tt) (λ _.
      cond_both (eqb (get_or s at 0) due) _ _ (Past from) (λ _. omega arith) (λ _. tt))

  keyword_past : (due : List ℕ) → Past from (keyword due s at)
  keyword_past due = then_past from (word s at) _ word_past (λ w after k. cond_both (bytes_eq w due) _ _ (Past from) (λ _. k) (λ _. tt))

  number_past : (c : Carrier) → Past from (number c s at)
  number_past c = then_past from (word s at) _ word_past (λ w after k. cond_both (is_number w) _ _ (Past from) (λ _. cond_both (leb (length w) 16 && ltb (value_of w) (2 ^ bits c)) _ _ (Past from) (λ _. k) (λ _. tt)) (λ _. tt))

numbers_past : (cs : List Carrier) (s : List ℕ) (from at : ℕ) → from < at → Past from (numbers cs s at)
numbers_past [] s from at h = h
numbers_past (c ∷ cs) s from at h =
    then_past from (number c s at) _ (number_past s from at (omega arith) c) (λ v at₁ h₁.
    then_past from (separator (separator_before cs) s at₁) _ (separator_past s from at₁ (omega arith) (separator_before cs)) (λ _ at₂ h₂.
    then_past from (numbers cs s at₂) _ (numbers_past cs s from at₂ h₂) (λ vs at₃ h₃. h₃)))

line_past : (c : Carrier) (cs : List Carrier) (s : List ℕ) (at : ℕ) → Past at (numbers (c ∷ cs) s at)
line_past c cs s at =
    then_past at (number c s at) _ (number_past s at at (omega arith) c) (λ v at₁ h₁.
    then_past at (separator (separator_before cs) s at₁) _ (separator_past s at at₁ (omega arith) (separator_before cs)) (λ _ at₂ h₂.
    then_past at (numbers cs s at₂) _ (numbers_past cs s at at₂ h₂) (λ vs at₃ h₃. h₃)))

headed_past : (due : List ℕ) (cs : List Carrier) (s : List ℕ) (at : ℕ) → Past at (headed due cs s at)
headed_past due cs s at =
    then_past at (keyword due s at) _ (keyword_past s at at (omega arith) due) (λ _ at₁ h₁.
    then_past at (separator 32 s at₁) _ (separator_past s at at₁ (omega arith) 32) (λ _ at₂ h₂. numbers_past cs s at at₂ h₂))

bridge_past : (s : List ℕ) (at : ℕ) → Past at (bridge_line s at)
bridge_past s at = then_past at (headed (codes "bridge") bridge_carriers s at) _ (headed_past (codes "bridge") bridge_carriers s at) (λ vs after h. h)

burst_past : (s : List ℕ) (at : ℕ) → Past at (burst_line s at)
burst_past s at = then_past at (numbers burst_carriers s at) _ (line_past Bits16 (Bits32 ∷ Bits8 ∷ Bits8 ∷ Bits8 ∷ Bits8 ∷ Bits8 ∷ Bits8 ∷ []) s at) (λ vs after h. h)

pub item_past : (keyword : Bool) (plan : Plan) (s : List ℕ) (at after : ℕ) (x : Item) → LineTold keyword plan s at after (Ok x) → at < after
item_past true plan s at after (Bridge p) told = subst (Past at) told (bridge_past s at)
item_past true plan s at after (Burst p b) told = absurd told
item_past false plan s at after (Bridge p) told = absurd told
item_past false plan s at after (Burst p b) told = subst (Past at) told.1.0 (burst_past s at)

-- a line less is left
pub shorter : (s s' : List ℕ) (at next : ℕ) → s' ≡ s → false ≡ leb (length s) at → at < next → length s' - next < length s - at
shorter s s' at next same left past = omega (arith, ap length same, leb-false (length s) at (sym left))
