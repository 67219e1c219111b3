-- Ledgers that extend one another, and what is read off them entry by entry: a ledger, or a count.
use mathlib.Core.Path.{◌≡◌, ap, ◌∙◌}
use mathlib.Core.List.{List, [], ◌++◌, append_assoc, append-nil}
use Prim.Native.Nat.{ℕ, ◌+◌}
use lib.ListN.{length, length-append}
use Rattle.ledgers.specs.Pieces.{Pieces}
use Rattle.ledgers.specs.Ledgers.{Ledgers, blank, extend}

module _ (K : Pieces) where
  pub extend_assoc : (l c f : Ledgers K) → extend K (extend K l c) f ≡ extend K l (extend K c f)
  extend_assoc l c f = λ i. record {
    AW = append_assoc l.AW c.AW f.AW i;
    W = append_assoc l.W c.W f.W i;
    B = append_assoc l.B c.B f.B i;
    AR = append_assoc l.AR c.AR f.AR i;
    R = append_assoc l.R c.R f.R i;
    LAW = append_assoc l.LAW c.LAW f.LAW i;
    LW = append_assoc l.LW c.LW f.LW i;
    LB = append_assoc l.LB c.LB f.LB i;
    LAR = append_assoc l.LAR c.LAR f.LAR i;
    LR = append_assoc l.LR c.LR f.LR i;
  }

  pub extend_blank : (l : Ledgers K) → extend K l (blank K) ≡ l
  extend_blank l = λ i. record {
    AW = append-nil l.AW i;
    W = append-nil l.W i;
    B = append-nil l.B i;
    AR = append-nil l.AR i;
    R = append-nil l.R i;
    LAW = append-nil l.LAW i;
    LW = append-nil l.LW i;
    LB = append-nil l.LB i;
    LAR = append-nil l.LAR i;
    LR = append-nil l.LR i;
  }

  -- a list that grows as the ledgers do, as each of them does
  pub record Column {A : Type 0} (crossed : Ledgers K → List A) : Type 0 where
    pub none : crossed (blank K) ≡ []
    pub grows : (l c : Ledgers K) → crossed (extend K l c) ≡ crossed l ++ crossed c

  -- a number that grows as the ledgers do
  pub record Count (many : Ledgers K → ℕ) : Type 0 where
    pub none : many (blank K) ≡ 0
    pub grows : (l c : Ledgers K) → many (extend K l c) ≡ many l + many c

  pub length_counts : {A : Type 0} (crossed : Ledgers K → List A) → Column crossed → Count (λ l. length (crossed l))
  length_counts crossed col = record {
    none = ap length col.none;
    grows = λ l c. ap length (col.grows l c) ∙ length-append (crossed l) (crossed c);
  }
