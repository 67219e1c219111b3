-- The laws, from what a reading returns.
use Rattle.std.proofs.Common.{◌≡◌, ℕ, ◌≤◌, List, length, Ok, Err, Result, sym, ap, ◌∙◌, subst, arith}
use Rattle.script.proofs.Pointing.{Pointed, script_points}
use Rattle.script.proofs.Roundtrip.{script_back}
use Rattle.script.specs.Laws.{ReadsBack, Points}
use Rattle.script.specs.Scripts.{Contents, script, contents, Reads}
use Rattle.script.specs.Writing.{values_of, written}
use Rattle.words.specs.declared.fault.Fault.{Fault}
use Rattle.script.specs.declared.script.Script.{Script}

same_contents : (r : Result Contents Fault) (c d : Contents) → r ≡ Ok c → r ≡ Ok d → c ≡ d
same_contents r c d p q = cc

never_both : (r : Result Contents Fault) (c : Contents) (f : Fault) → r ≡ Ok c → r ≡ Err f → ⊥
never_both r c f p q = let z : ◌≡◌ {A = ℕ} 0 1 = cc in omega arith

pub back_law : (s : List ℕ) (r : Result Script Fault) → Reads (script s) r → ReadsBack s r
back_law s (Ok x) told v fits short e =
    let b = script_back v fits (subst (λ t. length t ≤ 16384) e short) in
    ap values_of (same_contents (script (written v)) (contents x) b.0 (ap script (sym e) ∙ told) b.2) ∙ b.1
back_law s (Err f) told v fits short e =
    let b = script_back v fits (subst (λ t. length t ≤ 16384) e short) in
    never_both (script (written v)) b.0 f b.2 (ap script (sym e) ∙ told)

pub points_law : (s : List ℕ) (r : Result Script Fault) → Reads (script s) r → Points s r
points_law s (Ok x) told = tt
points_law s (Err f) told = subst (Pointed s) told (script_points s)
