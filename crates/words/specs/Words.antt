-- Words, numbers, keywords and separators.
use Rattle.std.specs.Prelude.{◌≡◌, ℕ, ◌+◌, ◌^◌, Bool, true, false, cond, not, ◌&&◌, ◌||◌, List, length, take, drop, ◌==◌, nat_le, nat_lt, slice_index}
use Rattle.std.specs.List.{prefix_len}
use Rattle.std.specs.Str.{bytes_eq}
use Rattle.words.specs.Carriers.{bits}
use Rattle.words.specs.Faults.{fault_at}
use Rattle.words.specs.Numbers.{is_number, value_of}
use Rattle.words.specs.Reading.{Read, then}
use Rattle.words.specs.Reading.Read.{got, stop}
use Rattle.words.specs.declared.carrier.Carrier.{Carrier}
use Rattle.words.specs.declared.cursor.Cursor.{Cursor}
use Rattle.words.specs.declared.fault.Wrong.TheVariants.{NotDue, TooLarge, EndsEarly, Trailing}
use Rattle.words.specs.declared.word.Piece.{Piece}
use Rattle.words.specs.declared.word.Word.{Word}
use Rattle.words.specs.declared.word.Word.TheVariants.{Keyword, Number}

-- a byte of a word is neither a space nor a line end
abbrev pub of_word : ℕ → Bool
of_word b = not (b == 32 || b == 10)

-- a word runs to the next space, line end or end of the script
abbrev pub word_length : List ℕ → ℕ → ℕ
word_length s at = prefix_len of_word (drop at s)

abbrev pub word_at : List ℕ → ℕ → List ℕ
word_at s at = take (word_length s at) (drop at s)

-- a due word: the script ends here, or the word is empty, or it is there
abbrev pub word : List ℕ → ℕ → Read (List ℕ)
word s at = cond (nat_le (length s) at) (stop (fault_at s EndsEarly (length s))) (cond (word_length s at == 0) (stop (fault_at s NotDue at)) (got (word_at s at) (at + word_length s at)))

-- a due keyword
abbrev pub keyword : List ℕ → List ℕ → ℕ → Read (Unit {0})
keyword due s at = then (word s at) (λ w after. cond (bytes_eq w due) (got tt after) (stop (fault_at s NotDue at)))

-- a word of digits that a carrier holds: at most 16, with a value below 2 ^ bits
abbrev pub held_by : Carrier → List ℕ → Bool
held_by c w = nat_le (length w) 16 && nat_lt (value_of w) (2 ^ bits c)

-- a due number: a byte that is no digit comes before over 16 digits or a value above the carrier
abbrev pub number : Carrier → List ℕ → ℕ → Read ℕ
number c s at = then (word s at) (λ w after. cond (is_number w) (cond (nat_le (length w) 16 && nat_lt (value_of w) (2 ^ bits c)) (got (value_of w) after) (stop (fault_at s TooLarge at))) (stop (fault_at s NotDue at)))

-- a due separator
abbrev pub separator : ℕ → List ℕ → ℕ → Read (Unit {0})
separator due s at = cond (nat_le (length s) at) (stop (fault_at s EndsEarly (length s))) (cond (slice_index s at == due) (got tt (at + 1)) (stop (fault_at s NotDue at)))

-- the due end
abbrev pub end : List ℕ → ℕ → Read (Unit {0})
end s at = cond (nat_le (length s) at) (got tt at) (stop (fault_at s Trailing at))

abbrev pub piece_of : Word → Piece
piece_of (Keyword p) = p
piece_of (Number p) = p

abbrev pub word_bytes : Word → List ℕ
word_bytes w = (piece_of w).bytes.now

abbrev pub is_number_word : Word → Bool
is_number_word (Keyword p) = false
is_number_word (Number p) = true

-- a word of the script, from where the cursor stood to where it stands
pub record Passed (c : Cursor) (after : ℕ) (w : Word) : Type 0 where
  pub read : word c.script.now c.at ≡ got (word_bytes w) after
  pub kind : is_number_word w ≡ is_number (word_bytes w)
  pub place : (piece_of w).at ≡ c
