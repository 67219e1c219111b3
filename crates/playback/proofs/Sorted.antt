-- What crosses on an edge, sorted by channels.
use Rattle.std.proofs.Common.{◌≡◌, ℕ, Bool, true, false, ◌&&◌, List, [], ◌∷◌, ◌++◌, map, sym, refl, ap, ◌∙◌, append_assoc, append-nil}
use Rattle.axi.specs.declared.wires.Beat.{Beat}
use Rattle.axi.specs.declared.wires.Place.{Place}
use Rattle.axi.specs.declared.plan.Plan.{Plan}
use Rattle.axi.specs.declared.wires.LowerRead.{LowerRead}
use Rattle.axi.specs.declared.wires.ReadBeat.{ReadBeat}
use Rattle.axi.specs.declared.wires.WriteAnswer.{WriteAnswer}
use Rattle.engines.specs.Protocol.{pieces}
use Rattle.engines.specs.declared.taken.Taken.{Taken}
use Rattle.ledgers.specs.Ledgers.{Ledgers, blank, extend, crossing}
use Rattle.ledgers.specs.Lists.{just_if}
use Rattle.ledgers.specs.Wires.{Inputs, Outputs}
use Rattle.playback.specs.Laws.{ten, alone, sorted}
use Rattle.playback.specs.Runs.{in_order}
use Rattle.transcript.specs.declared.crossing.Crossing.{Crossing}
use Rattle.transcript.specs.declared.crossing.Crossing.TheVariants.{Aw, W, B, Ar, R, Law, Lw, Lb, Lar, Lr}

module _ (p : Plan) where
  pub extend_blank : (l : Ledgers (pieces p)) → extend (pieces p) l (blank (pieces p)) ≡ l
  extend_blank l = simp append-nil

  pub extend_assoc : (l c d : Ledgers (pieces p)) → extend (pieces p) (extend (pieces p) l c) d ≡ extend (pieces p) l (extend (pieces p) c d)
  extend_assoc l c d = simp append_assoc

  pub sorted_append : (xs ys : List Crossing) → sorted p (xs ++ ys) ≡ extend (pieces p) (sorted p xs) (sorted p ys)
  sorted_append [] ys = refl
  sorted_append (x ∷ xs) ys =
      ap (extend (pieces p) (alone p x)) (sorted_append xs ys)
      ∙ sym (extend_assoc (alone p x) (sorted p xs) (sorted p ys))

  lr_last : (crosses : Bool) (x : LowerRead) → sorted p (map Lr (just_if crosses x)) ≡ ten p [] [] [] [] [] [] [] [] [] (just_if crosses x)
  lr_last true x = refl
  lr_last false x = refl

  -- a channel in front of the later ones
  lar_first : (crosses : Bool) (x : Place) (cs : List Crossing) (lr : List LowerRead) → sorted p cs ≡ ten p [] [] [] [] [] [] [] [] [] lr → sorted p (map Lar (just_if crosses x) ++ cs) ≡ ten p [] [] [] [] [] [] [] [] (just_if crosses x) lr
  lar_first true x cs lr e = ap (extend (pieces p) (alone p (Lar x))) e
  lar_first false x cs lr e = e

  lb_first : (crosses : Bool) (x : ℕ) (cs : List Crossing) (lar : List Place) (lr : List LowerRead) → sorted p cs ≡ ten p [] [] [] [] [] [] [] [] lar lr → sorted p (map Lb (just_if crosses x) ++ cs) ≡ ten p [] [] [] [] [] [] [] (just_if crosses x) lar lr
  lb_first true x cs lar lr e = ap (extend (pieces p) (alone p (Lb x))) e
  lb_first false x cs lar lr e = e

  lw_first : (crosses : Bool) (x : Beat) (cs : List Crossing) (lb : List ℕ) (lar : List Place) (lr : List LowerRead) → sorted p cs ≡ ten p [] [] [] [] [] [] [] lb lar lr → sorted p (map Lw (just_if crosses x) ++ cs) ≡ ten p [] [] [] [] [] [] (just_if crosses x) lb lar lr
  lw_first true x cs lb lar lr e = ap (extend (pieces p) (alone p (Lw x))) e
  lw_first false x cs lb lar lr e = e

  law_first : (crosses : Bool) (x : Place) (cs : List Crossing) (lw : List Beat) (lb : List ℕ) (lar : List Place) (lr : List LowerRead) → sorted p cs ≡ ten p [] [] [] [] [] [] lw lb lar lr → sorted p (map Law (just_if crosses x) ++ cs) ≡ ten p [] [] [] [] [] (just_if crosses x) lw lb lar lr
  law_first true x cs lw lb lar lr e = ap (extend (pieces p) (alone p (Law x))) e
  law_first false x cs lw lb lar lr e = e

  r_first : (crosses : Bool) (x : ReadBeat) (cs : List Crossing) (law : List Place) (lw : List Beat) (lb : List ℕ) (lar : List Place) (lr : List LowerRead) → sorted p cs ≡ ten p [] [] [] [] [] law lw lb lar lr → sorted p (map R (just_if crosses x) ++ cs) ≡ ten p [] [] [] [] (just_if crosses x) law lw lb lar lr
  r_first true x cs law lw lb lar lr e = ap (extend (pieces p) (alone p (R x))) e
  r_first false x cs law lw lb lar lr e = e

  ar_first : (crosses : Bool) (x : Taken) (cs : List Crossing) (r : List ReadBeat) (law : List Place) (lw : List Beat) (lb : List ℕ) (lar : List Place) (lr : List LowerRead) → sorted p cs ≡ ten p [] [] [] [] r law lw lb lar lr → sorted p (map Ar (just_if crosses x) ++ cs) ≡ ten p [] [] [] (just_if crosses x) r law lw lb lar lr
  ar_first true x cs r law lw lb lar lr e = ap (extend (pieces p) (alone p (Ar x))) e
  ar_first false x cs r law lw lb lar lr e = e

  b_first : (crosses : Bool) (x : WriteAnswer) (cs : List Crossing) (ar : List Taken) (r : List ReadBeat) (law : List Place) (lw : List Beat) (lb : List ℕ) (lar : List Place) (lr : List LowerRead) → sorted p cs ≡ ten p [] [] [] ar r law lw lb lar lr → sorted p (map B (just_if crosses x) ++ cs) ≡ ten p [] [] (just_if crosses x) ar r law lw lb lar lr
  b_first true x cs ar r law lw lb lar lr e = ap (extend (pieces p) (alone p (B x))) e
  b_first false x cs ar r law lw lb lar lr e = e

  w_first : (crosses : Bool) (x : Beat) (cs : List Crossing) (b : List WriteAnswer) (ar : List Taken) (r : List ReadBeat) (law : List Place) (lw : List Beat) (lb : List ℕ) (lar : List Place) (lr : List LowerRead) → sorted p cs ≡ ten p [] [] b ar r law lw lb lar lr → sorted p (map W (just_if crosses x) ++ cs) ≡ ten p [] (just_if crosses x) b ar r law lw lb lar lr
  w_first true x cs b ar r law lw lb lar lr e = ap (extend (pieces p) (alone p (W x))) e
  w_first false x cs b ar r law lw lb lar lr e = e

  aw_first : (crosses : Bool) (x : Taken) (cs : List Crossing) (w : List Beat) (b : List WriteAnswer) (ar : List Taken) (r : List ReadBeat) (law : List Place) (lw : List Beat) (lb : List ℕ) (lar : List Place) (lr : List LowerRead) → sorted p cs ≡ ten p [] w b ar r law lw lb lar lr → sorted p (map Aw (just_if crosses x) ++ cs) ≡ ten p (just_if crosses x) w b ar r law lw lb lar lr
  aw_first true x cs w b ar r law lw lb lar lr e = ap (extend (pieces p) (alone p (Aw x))) e
  aw_first false x cs w b ar r law lw lb lar lr e = e

  -- the crossings of an edge, sorted, are what crosses by the wires
  pub sorted_crossing : (x : Inputs (pieces p)) (o : Outputs (pieces p)) → sorted p (in_order p (crossing (pieces p) x o)) ≡ crossing (pieces p) x o
  sorted_crossing x o =
      let c = crossing (pieces p) x o in
      let lr = map Lr c.LR in
      let lar = map Lar c.LAR ++ lr in
      let lb = map Lb c.LB ++ lar in
      let lw = map Lw c.LW ++ lb in
      let law = map Law c.LAW ++ lw in
      let r = map R c.R ++ law in
      let ar = map Ar c.AR ++ r in
      let b = map B c.B ++ ar in
      let w = map W c.W ++ b in
      let e₀ = lr_last (x.lrvalid && o.lrready) x.lr in
      let e₁ = lar_first (o.larvalid && x.larready) o.lar lr c.LR e₀ in
      let e₂ = lb_first (x.lbvalid && o.lbready) x.lb lar c.LAR c.LR e₁ in
      let e₃ = lw_first (o.lwvalid && x.lwready) o.lw lb c.LB c.LAR c.LR e₂ in
      let e₄ = law_first (o.lawvalid && x.lawready) o.law lw c.LW c.LB c.LAR c.LR e₃ in
      let e₅ = r_first (o.rvalid && x.rready) o.r law c.LAW c.LW c.LB c.LAR c.LR e₄ in
      let e₆ = ar_first (x.arvalid && o.arready) ((pieces p).judge x.ar) r c.R c.LAW c.LW c.LB c.LAR c.LR e₅ in
      let e₇ = b_first (o.bvalid && x.bready) o.b ar c.AR c.R c.LAW c.LW c.LB c.LAR c.LR e₆ in
      let e₈ = w_first (x.wvalid && o.wready) x.w b c.B c.AR c.R c.LAW c.LW c.LB c.LAR c.LR e₇ in
      aw_first (x.awvalid && o.awready) ((pieces p).judge x.aw) w c.W c.B c.AR c.R c.LAW c.LW c.LB c.LAR c.LR e₈
