-- Lists cut at a mark.
use Rattle.std.specs.Prelude.{ℕ, ◌<◌, List, length, ◌≢◌, slice_index}

-- the mark stands nowhere in the list
abbrev pub Free : ℕ → List ℕ → Type 0
Free mark xs = (k : ℕ) → k < length xs → slice_index xs k ≢ mark
