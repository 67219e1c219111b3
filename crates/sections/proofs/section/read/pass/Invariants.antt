use Rattle.std.proofs.Common.{◌≡◌, ◌-◌, List}
use Rattle.words.specs.Cursors.{text}
use Rattle.sections.proofs.Rows.{behind}
use Rattle.sections.specs.Sections.{Row, rows}
use Rattle.sections.proofs.section.read.pass.Given as goal

-- the lines that were passed, and those that are to come, are all of them
abbrev pub invariant-loop : goal.invariant-loop
invariant-loop g l =
    let cs = g.T.Entry.carriers in
    let s = text l.initial.cursor in
    (text l.cursor ≡ s) × ((xs : List Row) × (rows cs l.count s l.initial.cursor.at ≡ behind xs (rows cs (l.count - l.counter) s l.cursor.at)))
