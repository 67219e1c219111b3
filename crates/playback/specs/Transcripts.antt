-- The transcript of a script.
use Rattle.std.specs.Prelude.{◌≡◌, ℕ, zero, suc, cond, List, [], Some, None, Ok, Err, Option, Result, ◌==◌}
use Rattle.axi.specs.Plans.{refused_plan}
use Rattle.axi.specs.declared.plan.Level.{Level}
use Rattle.axi.specs.declared.plan.Level.TheVariants.{FullConversion, SimpleConversion, FullProtection}
use Rattle.axi.specs.declared.plan.Plan.{Plan}
use Rattle.axi.specs.declared.plan.PlanRefusal.{PlanRefusal}
use Rattle.axi.specs.declared.plan.Widths.{Widths}
use Rattle.axi.specs.declared.plan.Widths.TheVariants.{FourOverFour, EightOverFour, EightOverEight}
use Rattle.bridge.specs.Edges.{Settings}
use Rattle.engines.specs.Protocol.{pieces, joining}
use Rattle.ledgers.specs.OneByOne.{made}
use Rattle.script.specs.Scripts.{Contents, script, contents}
use Rattle.sections.specs.Sections.{section_text}
use Rattle.words.specs.declared.fault.Fault as script_fault
use Rattle.script.specs.declared.script.Script as script_read
use Rattle.transcript.specs.Faults.{of_script, of_plan}
use Rattle.playback.specs.Runs.{Played, played, played_bytes}
use Rattle.transcript.specs.declared.fault.PlayerFault.{PlayerFault}

-- the plan that U, L and level stand for
abbrev pub widths_of : ℕ → ℕ → Widths
widths_of u l = cond (u == 4) FourOverFour (cond (l == 4) EightOverFour EightOverEight)

abbrev pub level_of : ℕ → Level
level_of zero = FullConversion
level_of (suc zero) = SimpleConversion
level_of (suc (suc n)) = FullProtection

abbrev pub plan_with : ℕ → ℕ → ℕ → Plan
plan_with u l v = record { widths = widths_of u l; level = level_of v }

abbrev pub unless_refused : Option PlanRefusal → Plan → Result Plan PlanRefusal
unless_refused None p = Ok p
unless_refused (Some e) p = Err e

abbrev pub planned : Contents → Result Plan PlanRefusal
planned c = unless_refused (refused_plan c.upper c.lower c.level) (plan_with c.upper c.lower c.level)

-- tables of four slots each
abbrev pub four_slots : Plan → Settings
four_slots p = record { plan = p; write_side = record { bursts = 4; beats = 4; answers = 4 }; read_side = record { bursts = 4; beats = 4 } }

-- the gates of a script s with these contents, through a bridge of the plan
abbrev pub played_through : List ℕ → Contents → Plan → Played
played_through s c p = played (four_slots p) s (made (pieces p) (joining p)) (record { master = c.master; block = c.block }) 0 c.gates

-- a fault before the first edge
abbrev pub not_played : PlayerFault → Played
not_played f = record { lines = []; ending = Err f }

abbrev pub by_plan : List ℕ → Contents → Result Plan PlanRefusal → Played
by_plan s c (Ok p) = played_through s c p
by_plan s c (Err e) = not_played (of_plan e)

abbrev pub by_reading : List ℕ → Result Contents script_fault.Fault → Played
by_reading s (Ok c) = by_plan s c (planned c)
by_reading s (Err f) = not_played (of_script f)

-- the whole script is read first, then the plan is made, then each gate is played
abbrev pub performed : List ℕ → Played
performed s = by_reading s (script s)

-- THE TRANSCRIPT of a row of bytes
abbrev pub transcript : List ℕ → List ℕ
transcript s = played_bytes (performed s)

-- what is ready to be played, or why nothing is
pub record Ready (s : List ℕ) (p : Plan) (x : script_read.Script) : Type 0 where
  pub read : script s ≡ Ok (contents x)
  pub plan : planned (contents x) ≡ Ok p
  pub inside : section_text x.gates ≡ s

abbrev pub Prepared : List ℕ → Result (Plan × script_read.Script) PlayerFault → Type 0
Prepared s (Ok x) = Ready s x.0 x.1
Prepared s (Err f) = performed s ≡ not_played f
