-- What is to be shown of every run, from what is to be shown of an edge that is not refused and has ARESETn high.
use mathlib.Core.Path.{◌≡◌, refl, sym}
use mathlib.Core.Bool.{Bool, true, false, cond, not, ◌&&◌, ◌||◌}
use mathlib.Core.List.{List, [], ◌∷◌}
use Rattle.ledgers.specs.Pieces.{Pieces}
use Rattle.ledgers.specs.Wires.{Inputs, Outputs, Machine, Call, refused_edge, after, state}
use Rattle.ledgers.specs.Wires.Call.{edge, ask_wires, ask_owed}
use Rattle.ledgers.specs.Ledgers.{Ledgers, blank, crossing, extend, feed, ledgers}
use Rattle.ledgers.specs.Promise.{earlier, frees, Stays}
use Rattle.ledgers.proofs.Tests.{never}

module _ (K : Pieces) (M : Machine K) where
  -- the ledgers after such an edge
  abbrev pub grown : M.State → Ledgers K → Inputs K → Ledgers K
  grown s l x = extend K l (crossing K x (M.shown s))

  -- P of a state and its ledgers: shown of the making, and kept by every edge
  module _ (P : M.State → Ledgers K → Type 0) (start : P M.made (blank K))
      (keeps : (s : M.State) (l : Ledgers K) (x : Inputs K) → P s l → P (M.step s x) (grown s l x)) where
    edge_keeps : (s : M.State) (l : Ledgers K) (x : Inputs K) (no? up : Bool) → P s l →
        P (cond no? s (cond up (M.step s x) M.made)) (cond no? l (cond up (grown s l x) (blank K)))
    edge_keeps s l x true up p = p
    edge_keeps s l x false true p = keeps s l x p
    edge_keeps s l x false false p = start

    call_keeps : (s : M.State) (l : Ledgers K) (c : Call K) → P s l → P (after K M s c) (feed K l c (M.shown s))
    call_keeps s l (edge x) p = edge_keeps s l x (refused_edge K x) x.aresetn p
    call_keeps s l ask_wires p = p
    call_keeps s l ask_owed p = p

    pub after_every_run : (run : List (Call K)) → P (state K M run) (ledgers K M run)
    after_every_run [] = start
    after_every_run (c ∷ run) = call_keeps (state K M run) (ledgers K M run) c (after_every_run run)

    -- Q of the ledgers before a call and after it: shown of a call that leaves them, of a reset, and of every edge
    module _ (Q : Ledgers K → Ledgers K → Type 0) (same : (s : M.State) (l : Ledgers K) → P s l → Q l l) (reset : (l : Ledgers K) → Q l (blank K))
        (grows : (s : M.State) (l : Ledgers K) (x : Inputs K) → P s l → Q l (grown s l x)) where
      edge_relates : (s : M.State) (l : Ledgers K) (x : Inputs K) (no? up : Bool) → P s l → Q l (cond no? l (cond up (grown s l x)
          (blank K)))
      edge_relates s l x true up p = same s l p
      edge_relates s l x false true p = grows s l x p
      edge_relates s l x false false p = reset l

      call_relates : (s : M.State) (l : Ledgers K) (c : Call K) → P s l → Q l (feed K l c (M.shown s))
      call_relates s l (edge x) p = edge_relates s l x (refused_edge K x) x.aresetn p
      call_relates s l ask_wires p = same s l p
      call_relates s l ask_owed p = same s l p

      pub over_the_latest_call : (run : List (Call K)) → Q (ledgers K M (earlier run)) (ledgers K M run)
      over_the_latest_call [] = same M.made (blank K) start
      over_the_latest_call (c ∷ run) = call_relates (state K M run) (ledgers K M run) c (after_every_run run)

  -- a channel that the bridge drives: a VALID that is high over an edge where READY is low stays, with its payload
  module _ {A : Type 0} (ready : Inputs K → Bool) (valid : Outputs K → Bool) (payload : Outputs K → A)
      (holds : (s : M.State) (x : Inputs K) → valid (M.shown s) ≡ true → ready x ≡ false →
      (valid (M.shown (M.step s x)) ≡ true) × (payload (M.shown (M.step s x)) ≡ payload (M.shown s))) where
    edge_stays : (s : M.State) (x : Inputs K) (no? up : Bool) → let t = cond no? s (cond up (M.step s x) M.made) in
        Stays (not up || (not no? && ready x)) (valid (M.shown s)) (payload (M.shown s)) (valid (M.shown t)) (payload (M.shown t))
    edge_stays s x true up h k = (h, refl)
    edge_stays s x false true h k = holds s x h k
    edge_stays s x false false h k = never (sym k)

    pub stays : (run : List (Call K)) → let o₀ = M.shown (state K M (earlier run)) in let o = M.shown (state K M run) in
        Stays (frees K ready run) (valid o₀) (payload o₀) (valid o) (payload o)
    stays [] h k = (h, refl)
    stays (edge x ∷ run) h k = edge_stays (state K M run) x (refused_edge K x) x.aresetn h k
    stays (ask_wires ∷ run) h k = (h, refl)
    stays (ask_owed ∷ run) h k = (h, refl)
