-- Which values the fields on the wires may have, and when an edge is refused.
use Rattle.std.specs.Prelude.{ℕ, ◌*◌, ◌^◌, Bool, cond, not, ◌&&◌, [], ◌∷◌, Some, None, Option, nat_le, nat_lt}
use Rattle.axi.specs.First.{first_that}
use Rattle.axi.specs.Plans.{upper_bytes, lower_bytes}
use Rattle.axi.specs.Bursts.{burst_fits}
use Rattle.axi.specs.declared.plan.Plan.{Plan}
use Rattle.axi.specs.declared.wires.Beat.{Beat}
use Rattle.axi.specs.declared.wires.LowerRead.{LowerRead}
use Rattle.axi.specs.declared.wires.Inputs.{Inputs}
use Rattle.axi.specs.declared.wires.Refusal.{Refusal}
use Rattle.axi.specs.declared.wires.Refusal.TheVariants.{WriteBurst, DataBeat, ReadBurst, WriteCode, ReadPart}

-- WDATA has 8 bits and WSTRB one for each of the U lanes
abbrev pub beat_fits : Plan → Beat → Bool
beat_fits p w = nat_lt w.wdata (2 ^ (8 * upper_bytes p)) && nat_lt w.wstrb (2 ^ upper_bytes p)

-- codes go to 3
abbrev pub code_fits : ℕ → Bool
code_fits c = nat_le c 3

-- LRDATA has 8 bits for each of the L lanes
abbrev pub read_part_fits : Plan → LowerRead → Bool
read_part_fits p r = nat_lt r.lrdata (2 ^ (8 * lower_bytes p)) && code_fits r.lrresp

-- the refusals of an edge by their numbers
abbrev pub refusal_number : Refusal → ℕ
refusal_number WriteBurst = 4
refusal_number DataBeat = 5
refusal_number ReadBurst = 6
refusal_number WriteCode = 7
refusal_number ReadPart = 8

-- what each refusal says of the wires: a field that does not fit, under a high VALID
abbrev pub refuses_inputs : Plan → Inputs → Refusal → Bool
refuses_inputs p x WriteBurst = x.awvalid && not (burst_fits x.aw)
refuses_inputs p x DataBeat = x.wvalid && not (beat_fits p x.w)
refuses_inputs p x ReadBurst = x.arvalid && not (burst_fits x.ar)
refuses_inputs p x WriteCode = x.lbvalid && not (code_fits x.lbresp)
refuses_inputs p x ReadPart = x.lrvalid && not (read_part_fits p x.lr)

-- with ARESETn low no wire is judged; else the first refusal that holds, in the order of their numbers
abbrev pub refused_inputs : Plan → Inputs → Option Refusal
refused_inputs p x = cond x.aresetn (first_that (refuses_inputs p x) (λ e. Some e) None (WriteBurst ∷ DataBeat ∷ ReadBurst ∷ WriteCode ∷ ReadPart ∷ [])) None
