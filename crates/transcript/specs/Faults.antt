-- The player's fault: its layer, its number, and where it is.
use Rattle.std.specs.Prelude.{ℕ, List, codes}
use Rattle.axi.specs.Checks.{refusal_number}
use Rattle.axi.specs.Plans.{plan_refusal_number}
use Rattle.axi.specs.declared.plan.PlanRefusal.{PlanRefusal}
use Rattle.axi.specs.declared.wires.Refusal.{Refusal}
use Rattle.words.specs.Faults.{wrong_number, layer_of}
use Rattle.words.specs.declared.fault.Fault.{Fault}
use Rattle.words.specs.declared.fault.Layer as script_layer
use Rattle.words.specs.declared.fault.Layer.TheVariants as script_layers
use Rattle.transcript.specs.declared.fault.Layer.{Layer}
use Rattle.transcript.specs.declared.fault.Layer.TheVariants as layers
use Rattle.transcript.specs.declared.fault.Refused.{Refused}
use Rattle.transcript.specs.declared.fault.Refused.TheVariants.{Plan, Edge}
use Rattle.transcript.specs.declared.fault.PlayerFault.{PlayerFault}
use Rattle.transcript.specs.declared.fault.Cause.{Cause}
use Rattle.transcript.specs.declared.fault.Cause.TheVariants.{Script, Bridge}

-- the words of the layers in a fault line
abbrev pub layer_name : Layer → List ℕ
layer_name layers.Words = codes "words"
layer_name layers.Sections = codes "sections"
layer_name layers.Bridge = codes "bridge"

-- the refusals of the bridge by their numbers: 1 to 3 of a plan, 4 to 8 of an edge
abbrev pub refused_number : Refused → ℕ
refused_number (Plan e) = plan_refusal_number e
refused_number (Edge e) = refusal_number e

-- what the player's fault is made of; a refusal stands at line 1, place 0 until it is placed
abbrev pub of_script : Fault → PlayerFault
of_script f = record { cause = Script f.wrong; line = f.line; place = f.place }

abbrev pub of_refused : Refused → PlayerFault
of_refused e = record { cause = Bridge e; line = 1; place = 0 }

abbrev pub of_plan : PlanRefusal → PlayerFault
of_plan e = of_refused (Plan e)

abbrev pub of_edge : Refusal → PlayerFault
of_edge e = of_refused (Edge e)

abbrev pub placed : PlayerFault → ℕ → ℕ → PlayerFault
placed f line place = record { cause = f.cause; line = line; place = place }

abbrev pub reading_layer : script_layer.Layer → Layer
reading_layer script_layers.Words = layers.Words
reading_layer script_layers.Sections = layers.Sections

abbrev pub cause_layer : Cause → Layer
cause_layer (Script w) = reading_layer (layer_of w)
cause_layer (Bridge e) = layers.Bridge

abbrev pub cause_number : Cause → ℕ
cause_number (Script w) = wrong_number w
cause_number (Bridge e) = refused_number e

abbrev pub fault_layer : PlayerFault → Layer
fault_layer f = cause_layer f.cause

abbrev pub fault_number : PlayerFault → ℕ
fault_number f = cause_number f.cause

abbrev pub fault_line : PlayerFault → ℕ
fault_line f = f.line

abbrev pub fault_place : PlayerFault → ℕ
fault_place f = f.place
