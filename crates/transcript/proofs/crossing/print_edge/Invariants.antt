use Rattle.std.proofs.Common.{◌≡◌, ◌++◌, map, vec_items}
use Rattle.std.specs.List.{flat_map}
use Rattle.transcript.specs.Crossings.{entry_line}
use Rattle.transcript.proofs.crossing.print_edge.Given as goal

abbrev pub invariant-loop-crossing : goal.invariant-loop-crossing
invariant-loop-crossing l = vec_items l.out ≡ vec_items l.initial.out ++ flat_map (entry_line l.edge) (map (λ c. c.now) l.yielded)
