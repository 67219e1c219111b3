-- Words and lines read back.
use Rattle.std.proofs.Common.{◌≡◌, ℕ, ◌+◌, ◌^◌, ◌<◌, Bool, true, false, ◌&&◌, eqb, ltb, leb, List, [], ◌∷◌, ◌++◌, length, get_or, take, drop, sym, refl, ap, ◌∙◌, append_assoc, arith}
use Rattle.std.proofs.lemmas.List.{drop-drop, drop_at, take_at, length-drop, length-append, get_or-drop}
use Rattle.std.proofs.lemmas.Bool.{lt-leb, le-leb, lt-ltb, eq-eqb, ne_eqb, and_parts, and_from, cond-true, cond-false}
use Rattle.std.proofs.lemmas.Bool.Decides.{nat_tests}
use Rattle.std.proofs.lemmas.Slice.Eq.{bytes_eq-Decides}
use Rattle.std.specs.List.{prefix_len}
use Rattle.std.specs.Str.{bytes_eq}
use Rattle.script.proofs.Hexes.{hex_spells}
use Rattle.words.specs.Carriers.{bits}
use Rattle.words.specs.Lines.{numbers, headed, separator_before, Fit}
use Rattle.words.specs.Numbers.{is_digit, is_number, value_of}
use Rattle.words.specs.Reading.{Read, then}
use Rattle.words.specs.Reading.Read.{got}
use Rattle.words.specs.Words.{of_word, word_length, word_at, word, keyword, number, separator}
use Rattle.script.specs.Writing.{hex, line, headed_line, separator_to}
use Rattle.words.specs.declared.carrier.Carrier.{Carrier}
use Rattle.words.specs.declared.carrier.Carrier.TheVariants.{Bits8, Bits10, Bits16, Bits32, Bits64}

-- a reading gives a value, and a rest of the script is left
pub record ReadOn {X : Type 0} (reading : Read X) (x : X) (s rest : List ℕ) : Type 0 where
  pub end : ℕ
  pub read : reading ≡ got x end
  pub left : drop end s ≡ rest

pub on_then : {X Y : Type 0} {reading : Read X} {x : X} {s rest : List ℕ} (next : X → ℕ → Read Y) (y : Y) (rest' : List ℕ) →
    ReadOn reading x s rest → ((at : ℕ) → drop at s ≡ rest → ReadOn (next x at) y s rest') → ReadOn (then reading next) y s rest'
on_then next y rest' first more =
    let then-on = more first.end first.left in
    record { end = then-on.end; read = rw first.read then-on.read; left = then-on.left }

-- where something is left, the script goes on
pub goes_on : (s : List ℕ) (at b : ℕ) (rest : List ℕ) → drop at s ≡ b ∷ rest → at < length s
goes_on s at b rest e = omega (arith, length-drop at s, ap length e)

pub past : (s : List ℕ) (at : ℕ) (xs ys : List ℕ) → drop at s ≡ xs ++ ys → drop (at + length xs) s ≡ ys
past s at xs ys e = sym (drop-drop (length xs) at s) ∙ ap (drop (length xs)) e ∙ drop_at xs ys (length xs) refl

pub separator_on : (b : ℕ) (s : List ℕ) (at : ℕ) (rest : List ℕ) → drop at s ≡ b ∷ rest → ReadOn (separator b s at) tt s rest
separator_on b s at rest e =
    let none : at + 0 ≡ at = omega arith in
    let here : get_or s at 0 ≡ b = (rw none at (sym (get_or-drop at s 0 0))) ∙ ap (λ l. get_or l 0 0) e in
    record {
      end = at + 1;
      read = cond-false (leb (length s) at) _ _ (lt-leb (length s) at (goes_on s at b rest e)) ∙ cond-true (eqb (get_or s at 0) b) _ _ (eq-eqb (get_or s at 0) b here);
      left = past s at (b ∷ []) rest e;
    }

-- each byte belongs to a word
abbrev pub all_of_word : List ℕ → Bool
all_of_word [] = true
all_of_word (b ∷ bs) = of_word b && all_of_word bs

run : (w : List ℕ) (b : ℕ) (rest : List ℕ) → all_of_word w ≡ true → of_word b ≡ false → prefix_len of_word (w ++ (b ∷ rest)) ≡ length w
run [] b rest all ends = rw ends
run (x ∷ w) b rest all ends =
    let p = and_parts (of_word x) (all_of_word w) all in
    rw (p.0, run w b rest p.1 ends) (omega arith)

pub word_on : (w : List ℕ) (s : List ℕ) (at b : ℕ) (rest : List ℕ) → 0 < length w → all_of_word w ≡ true → of_word b ≡ false → drop at s ≡ w ++ (b ∷ rest) → ReadOn (word s at) w s (b ∷ rest)
word_on w s at b rest some all ends e =
    let size : word_length s at ≡ length w = ap (prefix_len of_word) e ∙ run w b rest all ends in
    let bytes : word_at s at ≡ w = ap (λ k. take k (drop at s)) size ∙ ap (take (length w)) e ∙ take_at w (b ∷ rest) (length w) refl in
    let more : at < length s = omega (arith, length-drop at s, ap length e, length-append w (b ∷ rest)) in
    record {
      end = at + length w;
      read = cond-false (leb (length s) at) _ _ (lt-leb (length s) at more)
          ∙ cond-false (eqb (word_length s at) 0) _ _ (ne_eqb (word_length s at) 0 (λ z. omega arith))
          ∙ ap (λ u. got u (at + word_length s at)) bytes ∙ ap (λ k. got w (at + k)) size;
      left = past s at w (b ∷ rest) e;
    }

pub keyword_on : (due : List ℕ) (s : List ℕ) (at b : ℕ) (rest : List ℕ) → 0 < length due → all_of_word due ≡ true → of_word b ≡ false → drop at s ≡ due ++ (b ∷ rest) → ReadOn (keyword due s at) tt s (b ∷ rest)
keyword_on due s at b rest some all ends e =
    on_then _ tt (b ∷ rest) (word_on due s at b rest some all ends e) (λ after left. record { end = after; read = cond-true (bytes_eq due due) _ _ ((bytes_eq-Decides due due).1 refl); left = left })

of_digit : (b : ℕ) → is_digit b ≡ true → of_word b ≡ true
of_digit b e = grind (arith, nat_tests)

of_digits : (w : List ℕ) → is_number w ≡ true → all_of_word w ≡ true
of_digits [] e = refl
of_digits (b ∷ w) e =
    let p = and_parts (is_digit b) (is_number w) e in
    and_from (of_word b) (all_of_word w) (of_digit b p.0) (of_digits w p.1)

below_64 : (c : Carrier) (v : ℕ) → v < 2 ^ bits c → v < 2 ^ 64
below_64 Bits8 v h = omega arith
below_64 Bits10 v h = omega arith
below_64 Bits16 v h = omega arith
below_64 Bits32 v h = omega arith
below_64 Bits64 v h = h

pub number_on : (c : Carrier) (v : ℕ) (s : List ℕ) (at b : ℕ) (rest : List ℕ) → v < 2 ^ bits c → of_word b ≡ false → drop at s ≡ hex v ++ (b ∷ rest) → ReadOn (number c s at) v s (b ∷ rest)
number_on c v s at b rest fits ends e =
    let sp = hex_spells v (below_64 c v fits) in
    let low : value_of (hex v) < 2 ^ bits c = rw sp.value fits in
    on_then _ v (b ∷ rest) (word_on (hex v) s at b rest sp.some (of_digits (hex v) sp.digits) ends e) (λ after left. record {
      end = after;
      read = cond-true (is_number (hex v)) _ _ sp.digits
          ∙ cond-true (leb (length (hex v)) 16 && ltb (value_of (hex v)) (2 ^ bits c)) _ _ (and_from _ _ (le-leb (length (hex v)) 16 sp.few) (lt-ltb (value_of (hex v)) (2 ^ bits c) low))
          ∙ ap (λ n. got n after) sp.value;
      left = left;
    })

same_separator : (cs : List Carrier) (vs : List ℕ) → Fit cs vs → separator_before cs ≡ separator_to vs
same_separator [] [] fit = refl
same_separator [] (v ∷ vs) fit = absurd fit
same_separator (c ∷ cs) [] fit = absurd fit
same_separator (c ∷ cs) (v ∷ vs) fit = refl

separator_ends : (vs : List ℕ) → of_word (separator_to vs) ≡ false
separator_ends [] = refl
separator_ends (v ∷ vs) = refl

separator_before_on : (cs : List Carrier) (vs : List ℕ) (s : List ℕ) (at : ℕ) (rest : List ℕ) → Fit cs vs → drop at s ≡ separator_to vs ∷ rest → ReadOn (separator (separator_before cs) s at) tt s rest
separator_before_on cs vs s at rest fit e = rw (same_separator cs vs fit) (separator_on (separator_to vs) s at rest e)

pub numbers_on : (cs : List Carrier) (vs : List ℕ) (s : List ℕ) (at : ℕ) (rest : List ℕ) → Fit cs vs → drop at s ≡ line vs ++ rest → ReadOn (numbers cs s at) vs s rest
numbers_on [] [] s at rest fit e = record { end = at; read = refl; left = e }
numbers_on [] (v ∷ vs) s at rest fit e = absurd fit
numbers_on (c ∷ cs) [] s at rest fit e = absurd fit
numbers_on (c ∷ cs) (v ∷ vs) s at rest fit e =
    let parted : drop at s ≡ hex v ++ (separator_to vs ∷ (line vs ++ rest)) = e ∙ append_assoc (hex v) (separator_to vs ∷ line vs) rest in
    on_then _ (v ∷ vs) rest (number_on c v s at (separator_to vs) (line vs ++ rest) fit.0 (separator_ends vs) parted) (λ at₁ left₁.
    on_then _ (v ∷ vs) rest (separator_before_on cs vs s at₁ (line vs ++ rest) fit.1 left₁) (λ at₂ left₂.
    on_then _ (v ∷ vs) rest (numbers_on cs vs s at₂ rest fit.1 left₂) (λ at₃ left₃.
    record { end = at₃; read = refl; left = left₃ })))

pub headed_on : (due : List ℕ) (cs : List Carrier) (vs : List ℕ) (s : List ℕ) (at : ℕ) (rest : List ℕ) → 0 < length due → all_of_word due ≡ true → Fit cs vs → drop at s ≡ headed_line due vs ++ rest → ReadOn (headed due cs s at) vs s rest
headed_on due cs vs s at rest some all fit e =
    let parted : drop at s ≡ due ++ (32 ∷ (line vs ++ rest)) = e ∙ append_assoc due (32 ∷ line vs) rest in
    on_then _ vs rest (keyword_on due s at 32 (line vs ++ rest) some all refl parted) (λ at₁ left₁.
    on_then _ vs rest (separator_on 32 s at₁ (line vs ++ rest) left₁) (λ at₂ left₂.
    numbers_on cs vs s at₂ rest fit left₂))
