-- The addresses that a cursor stands for.
use Rattle.std.specs.Prelude.{ℕ, List, [], Some, None, Option}
use Rattle.parts.specs.Parts.{at_places}
use Rattle.axi.specs.declared.plan.Plan.{Plan}
use Rattle.parts.specs.declared.cut.Parts.{Parts}

abbrev pub cursor_places : Plan → Option Parts → List ℕ
cursor_places p None = []
cursor_places p (Some c) = at_places p c
