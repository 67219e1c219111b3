use Rattle.std.proofs.Common.{◌≡◌, [], ◌∷◌, ◌++◌, ◌∙◌, arith}
use Rattle.words.specs.Cursors.{text}
use Rattle.sections.proofs.Rows.{rows_more, rows_all}
use Rattle.sections.proofs.section.read.pass.Goals as goal

pub loop-preserved : goal.loop-preserved
loop-preserved g c =
    let t = g.T.Entry in
    let i = c.loop.invariant in
    let told = c.in_ok-read.ensures.reads in
    let more = rows_more t.carriers (text c.args.cursor.now) t.of (text c.loop.cursor) i.0 i.1.0 c.args.count c.loop.counter c.loop.cursor.at _ c.read.new.cursor.at (omega arith) told.read in
    (told.same ∙ i.0, (i.1.0 ++ (more.0 ∷ []), i.1.1 ∙ more.1))

pub returns : goal.returns
returns g c =
    let i = c.loop.invariant in
    let all : c.loop.counter ≡ c.args.count = omega arith in
    record { same = i.0; read = rows_all g.T.Entry.carriers (text c.args.cursor.now) c.args.count c.args.cursor.now.at i.1.0 c.loop.cursor.at (rw all at i.1.1) }
