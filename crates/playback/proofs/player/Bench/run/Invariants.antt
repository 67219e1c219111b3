use Rattle.std.proofs.Common.{◌≡◌, ◌++◌, vec_items}
use Rattle.sections.specs.Sections.{section_text}
use Rattle.sections.specs.Values.{gates}
use Rattle.playback.specs.Entries.{stock}
use Rattle.playback.specs.Runs.{playing, lines_bytes}
use Rattle.playback.proofs.player.Bench.run.Given as goal

-- what is printed and what is left to play come to the same as at the start
abbrev pub invariant-loop-edge : goal.invariant-loop-edge
invariant-loop-edge l =
    let left = l.edge-iterator.iter in
    let p = playing l.self.bridge (stock l.self.entries) (section_text left) l.edge-iterator.count (gates left) in
    let q = playing l.initial.self.bridge (stock l.initial.self.entries) (section_text l.fn.section) 0 (gates l.fn.section) in
    goal.iterator-loop-edge.can_next l.edge-iterator × goal.iterator-loop-edge.is_finite l.edge-iterator
    × (vec_items l.out ++ lines_bytes p.lines ≡ vec_items l.initial.out ++ lines_bytes q.lines)
    × (p.ending ≡ q.ending)
