-- How what a row of slots holds changes as a slot is written and the first slot moves on.
use Rattle.std.proofs.Common.{◌≡◌, ℕ, ◌+◌, ◌-◌, ◌<◌, ◌≤◌, min, Bool, cond, List, [], ◌∷◌, ◌++◌, length, get_or, take, drop, set, sym, ap, ◌∙◌, inl, inr, append_assoc, append-nil, add-one, arith, length-append, length-drop, length-take, le-ltb, lt-ltb}
use lib.Seq.{take-set-lt}
use Rattle.std.proofs.lemmas.List.{take_more_set, drop_more, drop_all, take_all, take_more, take_min, set-append_left, set-append_right, drop-set-add, drop-set-lt, take-set-le, take-append-le, nil_from_length, get_or_append_left, get_or-append_right, get_or-drop, get_or-take}
use Rattle.std.proofs.Math.Seq.{take-append-add}
use Rattle.std.proofs.lemmas.Bool.{cases_lt}
use Rattle.std.proofs.lemmas.Bool.Decides.{nat_tests}
use Rattle.ring.specs.Circular.{rotated, stored, first_slot, slot_after}

length_rotated : {X : Type 0} (s : List X) (h : ℕ) → length (rotated s h) ≡ length s
length_rotated s h = simp (length-append, length-drop, length-take) (omega arith)

pub length_stored : {X : Type 0} (s : List X) (h n : ℕ) → length (stored s h n) ≡ min n (length s)
length_stored s h n = length-take n (rotated s h) ∙ ap (min n) (length_rotated s h)

pub none_stored : {X : Type 0} (s : List X) (h n : ℕ) → min n (length s) ≡ 0 → stored s h n ≡ []
none_stored s h n e = nil_from_length (stored s h n) (length_stored s h n ∙ e)

-- a first slot past the last is slot 0
rotated_past : {X : Type 0} (s : List X) (h : ℕ) → length s ≤ h → rotated s h ≡ rotated s 0
rotated_past s h l = rw (drop_all h s l, take_all h s l, append-nil)

rotated_first : {X : Type 0} (s : List X) (h : ℕ) → rotated s (first_slot h (length s)) ≡ rotated s h
rotated_first s h =
    elim (cases_lt h (length s)) [
      | inl l ↦ ap (λ b. rotated s (cond b h 0)) (lt-ltb h (length s) l)
      | inr l ↦ ap (λ b. rotated s (cond b h 0)) (le-ltb h (length s) l) ∙ sym (rotated_past s h l)
    ]

pub stored_first : {X : Type 0} (s : List X) (h n from m : ℕ) → from ≡ first_slot h (length s) → m ≡ min n (length s) → stored s h n ≡ stored s from m
stored_first s h n from m e f =
    sym (take_min n (rotated s h))
    ∙ ap (λ k. take (min n k) (rotated s h)) (length_rotated s h)
    ∙ ap (λ t. take (min n (length s)) t) (sym (rotated_first s h))
    ∙ sym (rw (e, f))

pub first_within : (h n from : ℕ) → from ≡ first_slot h n → from ≤ n
first_within h n from e = rw e (grind (arith, nat_tests))

first_low : (h n : ℕ) → 0 < n → first_slot h n < n
first_low h n some = grind (arith, nat_tests)

-- the slot that is n after the first is the one at n of the rotated row
set_above : {X : Type 0} (s : List X) (h n : ℕ) (x : X) → h + n < length s → rotated (set s (h + n) x) h ≡ set (rotated s h) n x
set_above s h n x b =
    let within : n < length (drop h s) = simp length-drop (omega arith) in
    let low : h ≤ h + n = omega arith in
    rw (drop-set-add, take-set-le, ← set-append_left)

set_below : {X : Type 0} (s : List X) (h n at : ℕ) (x : X) → h ≤ length s → n < length s → at + length s ≡ h + n → rotated (set s at x) h ≡ set (rotated s h) n x
set_below s h n at x l f e =
    let lt : at < h = omega arith in
    let size : length (drop h s) ≡ length s - h = length-drop h s in
    let far : length s - h ≤ n = omega arith in
    let same : n - (length s - h) ≡ at = omega arith in
    rw (drop-set-lt, take-set-lt, set-append_right (drop h s) (take h s) (length s - h) n x size far, same)

set_after : {X : Type 0} (s : List X) (h n : ℕ) (x : X) → h ≤ length s → n < length s → rotated (set s (slot_after h n (length s)) x) h ≡ set (rotated s h) n x
set_after s h n x l f =
    let at = λ (t : Bool). rotated (set s (cond t (h + n) (h + n - length s)) x) h in
    elim (cases_lt (h + n) (length s)) [
      | inl b ↦ ap at (lt-ltb (h + n) (length s) b) ∙ set_above s h n x b
      | inr b ↦ ap at (le-ltb (h + n) (length s) b) ∙ set_below s h n (h + n - length s) x l f (omega arith)
    ]

-- an entry that is written after the last comes last
pub stored_more : {X : Type 0} (s : List X) (h n : ℕ) (x : X) (from m : ℕ) → from ≡ first_slot h (length s) → m ≡ min n (length s) → m < length s → stored (set s (slot_after from m (length s)) x) from (m + 1) ≡ stored s h n ++ (x ∷ [])
stored_more s h n x from m e f few =
    let low : from ≤ length s = rw e (omega (arith, first_low h (length s) (omega arith))) in
    let all : m < length (rotated s from) = rw length_rotated few in
    ap (take (m + 1)) (set_after s from m x low few) ∙ take_more_set (rotated s from) m x all ∙ ap (λ t. t ++ (x ∷ [])) (sym (stored_first s h n from m e f))

-- without the entry in the first slot, the others are stored from the next slot on
stored_rest : {X : Type 0} (s : List X) (h n : ℕ) (d : X) → h < length s → n < length s → stored s h (n + 1) ≡ get_or s h d ∷ stored s (h + 1) n
stored_rest s h n d l f =
    let rest = drop (h + 1) s ++ take h s in
    let within : n ≤ length rest = simp (length-append, length-drop, length-take) (omega arith) in
    let here : stored s h (n + 1) ≡ get_or s h d ∷ take n rest = rw (drop_more s h d, add-one n) in
    let there : stored s (h + 1) n ≡ take n rest = rw (take_more s h d, ← append_assoc, take-append-le n rest) in
    here ∙ ap (λ r. get_or s h d ∷ r) (sym there)

pub stored_less : {X : Type 0} (s : List X) (h n : ℕ) (d : X) (from m : ℕ) → from ≡ first_slot h (length s) → m ≡ min n (length s) → 0 < m → stored s h n ≡ get_or s from d ∷ stored s (from + 1) (m - 1)
stored_less s h n d from m e f some =
    let low : from < length s = rw e (first_low h (length s) (omega arith)) in
    let less : m ≡ m - 1 + 1 = omega arith in
    stored_first s h n from m e f ∙ ap (stored s from) less ∙ stored_rest s from (m - 1) d low (omega arith)

-- the entry that i others are older than stands i slots after the first
rotated_at : {X : Type 0} (s : List X) (h i : ℕ) (d : X) → h ≤ length s → i < length s → get_or (rotated s h) i d ≡ get_or s (slot_after h i (length s)) d
rotated_at s h i d l f =
    let at = λ (t : Bool). get_or s (cond t (h + i) (h + i - length s)) d in
    let size : length (drop h s) ≡ length s - h = length-drop h s in
    elim (cases_lt (h + i) (length s)) [
      | inl b ↦ get_or_append_left (drop h s) (take h s) d i (omega (arith, size)) ∙ get_or-drop h s i d ∙ sym (ap at (lt-ltb (h + i) (length s) b))
      | inr b ↦
          let same : i - (length s - h) ≡ h + i - length s = omega arith in
          get_or-append_right (drop h s) (take h s) (length s - h) i d size (omega arith)
          ∙ get_or-take h s (i - (length s - h)) d (omega arith)
          ∙ ap (λ k. get_or s k d) same
          ∙ sym (ap at (le-ltb (h + i) (length s) b))
    ]

pub stored_at : {X : Type 0} (s : List X) (h n i : ℕ) (d : X) (from m : ℕ) → from ≡ first_slot h (length s) → m ≡ min n (length s) → i < m → get_or (stored s h n) i d ≡ get_or s (slot_after from i (length s)) d
stored_at s h n i d from m e f within =
    let low : from ≤ length s = rw e (omega (arith, first_low h (length s) (omega arith))) in
    ap (λ t. get_or t i d) (stored_first s h n from m e f) ∙ get_or-take m (rotated s from) i d within ∙ rotated_at s from i d low (omega arith)

-- the start of two lists in a row
take_both : {X : Type 0} (n : ℕ) (xs ys : List X) → take n xs ++ take (n - length xs) ys ≡ take n (xs ++ ys)
take_both n xs ys =
    elim (cases_lt n (length xs)) [
      | inl l ↦
          let none : n - length xs ≡ 0 = omega arith in
          ap (λ k. take n xs ++ take k ys) none ∙ append-nil (take n xs) ∙ sym (take-append-le n xs ys (omega arith))
      | inr l ↦
          let on : length xs + (n - length xs) ≡ n = omega arith in
          ap (λ t. t ++ take (n - length xs) ys) (take_all n xs l) ∙ sym (ap (λ k. take k (xs ++ ys)) (sym on) ∙ take-append-add xs ys (n - length xs))
    ]

-- what is stored, up to the last slot and from slot 0 on
pub two_slices : {X : Type 0} (s : List X) (h n upper : ℕ) (high low : List X) → high ≡ drop h s → low ≡ take h s → upper ≡ min n (length high) → take upper high ++ take (n - upper) low ≡ stored s h n
two_slices s h n upper high low e f m =
    let rest : n - upper ≡ n - length high = omega arith in
    ap (λ k. take k high ++ take (n - upper) low) m
    ∙ ap (λ t. t ++ take (n - upper) low) (take_min n high)
    ∙ ap (λ k. take n high ++ take k low) rest
    ∙ take_both n high low
    ∙ rw (e, f)
