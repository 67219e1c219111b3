-- Two counts of the ledgers whose difference the machine holds.
use mathlib.Core.Path.{◌≡◌}
use mathlib.Core.List.{List}
use Prim.Native.Nat.{ℕ, ◌+◌, ◌≤◌}
use native.Mathlib.Omega.{arith}
use Rattle.ledgers.specs.Pieces.{Pieces}
use Rattle.ledgers.specs.Wires.{Inputs, Machine, Call, state}
use Rattle.ledgers.specs.Ledgers.{Ledgers, blank, crossing, ledgers}
use Rattle.ledgers.specs.Promise.{earlier}
use Rattle.ledgers.proofs.Runs.{grown, after_every_run, over_the_latest_call}
use Rattle.ledgers.proofs.Columns.{Count}

module _ (K : Pieces) (M : Machine K) (more fewer : Ledgers K → ℕ) (held : M.State → ℕ) where
  pub record Balances : Type 0 where
    pub at_making : 0 ≡ held M.made
    pub at_edge : (s : M.State) (x : Inputs K) → let c = crossing K x (M.shown s) in held s + more c ≡ fewer c + held (M.step s x)
    pub more_counts : Count K more
    pub fewer_counts : Count K fewer

module _ (K : Pieces) (M : Machine K) {more fewer : Ledgers K → ℕ} {held : M.State → ℕ} (D : Balances K M more fewer held) where
  abbrev Balanced : M.State → Ledgers K → Type 0
  Balanced s l = more l ≡ fewer l + held s

  made_balances : Balanced M.made (blank K)
  made_balances = omega (arith, D.at_making, D.more_counts.none, D.fewer_counts.none)

  edge_balances : (s : M.State) (l : Ledgers K) (x : Inputs K) → Balanced s l → Balanced (M.step s x) (grown K M s l x)
  edge_balances s l x t =
      let c = crossing K x (M.shown s) in
      omega (arith, D.at_edge s x, D.more_counts.grows l c, D.fewer_counts.grows l c)

  pub balance : (run : List (Call K)) → more (ledgers K M run) ≡ fewer (ledgers K M run) + held (state K M run)
  balance = after_every_run K M Balanced made_balances edge_balances

  -- the lesser count grows at an edge by no more than what the machine held before it
  module _ (late : (s : M.State) (x : Inputs K) → fewer (crossing K x (M.shown s)) ≤ held s) where
    edge_stays_behind : (s : M.State) (l : Ledgers K) (x : Inputs K) → Balanced s l → fewer (grown K M s l x) ≤ more l
    edge_stays_behind s l x t = omega (arith, late s x, D.fewer_counts.grows l (crossing K x (M.shown s)))

    pub stays_behind : (run : List (Call K)) → fewer (ledgers K M run) ≤ more (ledgers K M (earlier run))
    stays_behind = over_the_latest_call K M Balanced made_balances edge_balances (λ was now. fewer now ≤ more was)
        (λ s l t. omega arith)
        (λ l. omega (arith, D.fewer_counts.none))
        edge_stays_behind
