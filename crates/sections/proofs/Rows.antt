-- The lines of a section, one after the other.
use Rattle.std.proofs.Common.{◌≡◌, ℕ, zero, suc, ◌+◌, ◌-◌, ◌<◌, List, [], ◌∷◌, ◌++◌, sym, refl, ap, append_assoc, arith}
use Rattle.words.proofs.Inverse.{then_got}
use Rattle.words.specs.Lines.{numbers}
use Rattle.words.specs.Reading.{Read, then}
use Rattle.words.specs.Reading.Read.{got, stop}
use Rattle.sections.specs.Sections.{Row, entry, row, rows, rows_left}
use Rattle.words.specs.declared.carrier.Carrier.{Carrier}

-- lines that were passed, before those that are read
abbrev pub behind : List Row → Read (List Row) → Read (List Row)
behind xs reading = then reading (λ ys end. got (xs ++ ys) end)

behind_one : (xs : List Row) (x : Row) (reading : Read (List Row)) → behind xs (then reading (λ ys end. got (x ∷ ys) end)) ≡ behind (xs ++ (x ∷ [])) reading
behind_one xs x (got ys end) = ap (λ zs. got zs end) (sym (append_assoc xs (x ∷ []) ys))
behind_one xs x (stop f) = refl

module _ (cs : List Carrier) (s : List ℕ) where
  -- one line more is passed, after i of n
  pub rows_more : {X : Type 0} (of : Row → X) (s₁ : List ℕ) → s₁ ≡ s → (xs : List Row) (n i at : ℕ) (x : X) (next : ℕ) → i < n → entry cs of s₁ at ≡ got x next →
      (r : Row) × (behind xs (rows cs (n - i) s at) ≡ behind (xs ++ (r ∷ [])) (rows cs (n - (i + 1)) s next))
  rows_more of s₁ same xs n i at x next less e =
      let one : n - i ≡ suc (n - (i + 1)) = omega arith in
      let p = then_got (numbers cs s₁ at) _ x next e in
      let r : Row = record { place = at; values = p.0 } in
      let read : numbers cs s at ≡ got p.0 p.1 = rw (← same) p.2 in
      let here : p.1 ≡ next = cc p.3 in
      (r, rw (one, read, here) (behind_one xs r (rows cs (n - (i + 1)) s next)))

  -- the lines that are left are those that are read
  pub left_read : (n at : ℕ) (xs : List Row) (end : ℕ) → rows cs n s at ≡ got xs end → rows_left cs n s at ≡ xs
  left_read zero at xs end e = cc
  left_read (suc n) at xs end e =
      let p = then_got (row cs s at) _ xs end e in
      let q = then_got (rows cs n s p.1) _ xs end p.3 in
      let all : (p.0 ∷ q.0) ≡ xs = cc q.3 in
      rw (p.2, left_read n p.1 q.0 q.1 q.2) all

  pub rows_all : (n at : ℕ) (xs : List Row) (end : ℕ) → rows cs n s at ≡ behind xs (rows cs (n - n) s end) → rows cs n s at ≡ got (rows_left cs n s at) end
  rows_all n at xs end e =
      let none : n - n ≡ 0 = omega arith in
      let read : rows cs n s at ≡ got (xs ++ []) end = rw none at e in
      rw (left_read n at (xs ++ []) end read) read
