use Rattle.std.proofs.Common.{◌≡◌, ◌+◌, [], ◌++◌, vec_items, Ok, Err, sym, ap, ◌∙◌}
use Rattle.bridge.specs.Edges.{settings}
use Rattle.bridge.specs.Machines.{seen}
use Rattle.sections.specs.Sections.{section_text}
use Rattle.sections.specs.Values.{gates, gate_at}
use Rattle.playback.proofs.Playing.{played_off, played_none, turn, turn_bytes, closed}
use Rattle.transcript.specs.Crossings.{edge_lines, there}
use Rattle.playback.specs.Entries.{stock}
use Rattle.playback.specs.Runs.{Played, numbered, preceded, playing, refused_at}
use Rattle.transcript.specs.declared.fault.PlayerFault.{PlayerFault}
use Rattle.playback.proofs.player.Bench.run.Goals as goal

pub returns-in-Err : goal.returns-in-Err
unfolding gates
returns-in-Err c =
    let b = c.loop-edge.self.bridge in
    let e = stock c.loop-edge.self.entries in
    let left = c.loop-edge.edge-iterator.iter in
    let s = section_text left in
    let n = c.loop-edge.edge-iterator.count in
    let given = c.in-Some.ensures.steps.0 in
    let g = c.in-Some.gate in
    let r = c.in-Err.refusal in
    let i = c.loop-edge.invariant in
    let f = c.fault_at.result in
    let fault : f ≡ refused_at s g.at.at r = c.fault_at.ensures ∙ ap (λ z. refused_at z g.at.at r) given.inside in
    let p = playing b e s n (gates left) in
    let is : p ≡ record { lines = []; ending = Err f } =
    ap (playing b e s n) given.taken
    ∙ played_off (settings b) s (seen b.plan b) e n (gate_at g) (gates c.next.new.self.iter) r c.in-Err.ensures.edge
    ∙ ap (λ (z : PlayerFault). record { lines = []; ending = Err z }) (sym fault) in
    closed p
    (playing c.args.self.now.bridge (stock c.args.self.now.entries) (section_text c.args.section) 0 (gates c.args.section))
    (vec_items c.args.out.now) (vec_items c.loop-edge.out) (Err f) i.2 i.3 is

pub loop-edge-preserved : goal.loop-edge-preserved
unfolding gates
loop-edge-preserved c =
    let b = c.loop-edge.self.bridge in
    let t = c.step.new.self.bridge in
    let e = stock c.loop-edge.self.entries in
    let f = stock c.step.new.self.entries in
    let left = c.loop-edge.edge-iterator.iter in
    let rest = c.next.new.self.iter in
    let s = section_text left in
    let n = c.loop-edge.edge-iterator.count in
    let given = c.in-Some.ensures.steps in
    let g = gate_at c.in-Some.gate in
    let cs = c.in-Ok.crossings in
    let i = c.loop-edge.invariant in
    let goes = c.in-Some.ensures.goes.on i.1 in
    let p = playing b e s n (gates left) in
    let q = playing t f (section_text rest) c.next.new.self.count (gates rest) in
    let is : p ≡ preceded (numbered n (there cs)) q =
    ap (playing b e s n) given.0.taken
    ∙ turn b t e f s n g (gates rest) cs c.in-Ok.ensures.kept c.in-Ok.ensures.edge
    ∙ ap (λ z. preceded (numbered n (there cs)) (playing t f z (n + 1) (gates rest))) (sym given.0.same)
    ∙ ap (λ z. preceded (numbered n (there cs)) (playing t f (section_text rest) z (gates rest))) (sym given.2) in
    (goes.0, goes.1, turn_bytes n cs p q (vec_items c.loop-edge.out) (vec_items c.print_edge.new.out) is (c.in_ok-print_edge-in-Ok.ensures ∙ ap (λ z. vec_items c.loop-edge.out ++ edge_lines z cs) given.1) ∙ i.2, ap (λ (z : Played). z.ending) (sym is) ∙ i.3)

pub returns : goal.returns
unfolding gates
returns c =
    let b = c.loop-edge.self.bridge in
    let e = stock c.loop-edge.self.entries in
    let left = c.loop-edge.edge-iterator.iter in
    let s = section_text left in
    let n = c.loop-edge.edge-iterator.count in
    let i = c.loop-edge.invariant in
    let p = playing b e s n (gates left) in
    let is : p ≡ record { lines = []; ending = Ok c.owed.result } =
    ap (playing b e s n) c.in-None.ensures.steps.0.taken.0
    ∙ played_none (settings b) s (seen b.plan b) e n c.owed.result c.owed.ensures.writes c.owed.ensures.reads in
    closed p
    (playing c.args.self.now.bridge (stock c.args.self.now.entries) (section_text c.args.section) 0 (gates c.args.section))
    (vec_items c.args.out.now) (vec_items c.loop-edge.out) (Ok c.owed.result) i.2 i.3 is
