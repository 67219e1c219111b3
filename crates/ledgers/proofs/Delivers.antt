-- A ledger that is a beginning of what is due, since the machine has the rest yet to deliver.
use mathlib.Core.Path.{◌≡◌, sym, ap, ◌∙◌}
use mathlib.Core.List.{List, ◌++◌, append_assoc}
use Rattle.ledgers.specs.Pieces.{Pieces}
use Rattle.ledgers.specs.Lists.{Begins}
use Rattle.ledgers.specs.Wires.{Inputs, Machine, Call, state}
use Rattle.ledgers.specs.Ledgers.{Ledgers, blank, crossing, extend, ledgers}
use Rattle.ledgers.specs.Promise.{earlier}
use Rattle.ledgers.proofs.Runs.{grown, after_every_run, over_the_latest_call}
use Rattle.ledgers.proofs.Columns.{Column, extend_assoc, extend_blank}

module _ (K : Pieces) (M : Machine K) {A : Type 0} (due crossed : Ledgers K → List A) where
  pub record Delivers : Type 0 where
    -- what is yet to cross, given what is still to cross on the other channels
    pub left : M.State → Ledgers K → List A
    -- at the making it is all that is due
    pub at_making : (f : Ledgers K) → due f ≡ left M.made f
    -- over an edge it loses what crosses
    pub at_edge : (s : M.State) (x : Inputs K) (f : Ledgers K) → let c = crossing K x (M.shown s) in
        left s (extend K c f) ≡ crossed c ++ left (M.step s x) f
    pub column : Column K crossed

module _ (K : Pieces) (M : Machine K) {A : Type 0} {due crossed : Ledgers K → List A} (D : Delivers K M due crossed) where
  -- what is due, whatever is still to cross, is what crossed and then what is left
  abbrev Delivered : M.State → Ledgers K → Type 0
  Delivered s l = (f : Ledgers K) → due (extend K l f) ≡ crossed l ++ D.left s f

  made_delivers : Delivered M.made (blank K)
  made_delivers f = D.at_making f ∙ ap (λ u. u ++ D.left M.made f) (sym D.column.none)

  edge_delivers : (s : M.State) (l : Ledgers K) (x : Inputs K) → Delivered s l → Delivered (M.step s x) (grown K M s l x)
  edge_delivers s l x t f =
      let c = crossing K x (M.shown s) in
      let rest = D.left (M.step s x) f in
      ap due (extend_assoc K l c f)
      ∙ t (extend K c f)
      ∙ ap (λ u. crossed l ++ u) (D.at_edge s x f)
      ∙ sym (append_assoc (crossed l) (crossed c) rest)
      ∙ ap (λ u. u ++ rest) (sym (D.column.grows l c))

  due_now : (s : M.State) (l : Ledgers K) → Delivered s l → due l ≡ crossed l ++ D.left s (blank K)
  due_now s l t = ap due (sym (extend_blank K l)) ∙ t (blank K)

  pub crossed_is_due : (run : List (Call K)) → Begins (crossed (ledgers K M run)) (due (ledgers K M run))
  crossed_is_due run =
      let s = state K M run in
      (D.left s (blank K), due_now s (ledgers K M run) (after_every_run K M Delivered made_delivers edge_delivers run))

  -- what crosses at an edge does not depend on what else crosses there
  module _ (prompt : (s : M.State) (x : Inputs K) → Begins (crossed (crossing K x (M.shown s))) (D.left s (blank K))) where
    edge_was_due : (s : M.State) (l : Ledgers K) (x : Inputs K) → Delivered s l → Begins (crossed (grown K M s l x)) (due l)
    edge_was_due s l x t =
        let c = crossing K x (M.shown s) in
        let w = prompt s x in
        let begins = ap (λ u. crossed l ++ u) w.1 ∙ sym (append_assoc (crossed l) (crossed c) w.0) in
        (w.0, due_now s l t ∙ begins ∙ ap (λ u. u ++ w.0) (sym (D.column.grows l c)))

    pub crossed_was_due : (run : List (Call K)) → Begins (crossed (ledgers K M run)) (due (ledgers K M (earlier run)))
    crossed_was_due = over_the_latest_call K M Delivered made_delivers edge_delivers (λ was now. Begins (crossed now) (due was))
        (λ s l t. (D.left s (blank K), due_now s l t))
        (λ l. (due l, ap (λ u. u ++ due l) (sym D.column.none)))
        edge_was_due
