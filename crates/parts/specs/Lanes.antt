-- Which byte lanes of the upper bus a part uses, and what it carries on them.
use Rattle.std.specs.Prelude.{ℕ, ◌-◌, ◌*◌, ◌/◌, ◌%◌, ◌^◌}
use Rattle.axi.specs.Plans.{upper_bytes, lower_bytes}
use Rattle.axi.specs.declared.plan.Plan.{Plan}
use Rattle.axi.specs.declared.wires.Beat.{Beat}

-- a part at address a uses the L lanes of the upper bus from this one on
abbrev pub lane : Plan → ℕ → ℕ
lane p a = a % upper_bytes p - a % lower_bytes p

-- the data on these lanes
abbrev pub on_lanes : Plan → ℕ → ℕ → ℕ
on_lanes p a d = d / 2 ^ (8 * lane p a) % 2 ^ (8 * lower_bytes p)

-- the strobes of these lanes
abbrev pub strobes_on : Plan → ℕ → ℕ → ℕ
strobes_on p a s = s / 2 ^ lane p a % 2 ^ lower_bytes p

-- a write part carries the data and strobes of its lanes unmodified
abbrev pub write_part : Plan → ℕ → Beat → Beat
write_part p a w = record { wdata = on_lanes p a w.wdata; wstrb = strobes_on p a w.wstrb }

-- a read part's data on its own lanes, all others 0
abbrev pub raised : Plan → ℕ → ℕ → ℕ
raised p a d = d % 2 ^ (8 * lower_bytes p) * 2 ^ (8 * lane p a)
