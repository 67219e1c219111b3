use Rattle.std.proofs.Common.{◌≡◌, length, take, drop}
use Rattle.words.specs.Cursors.{text}
use Rattle.words.specs.Lines.{numbers}
use Rattle.words.proofs.Steps.{prefixed}
use Rattle.words.proofs.cursor.Cursor.numbers.Given as goal

abbrev pub invariant-loop-i : goal.invariant-loop-i
invariant-loop-i g l = record {
  same : text l.self ≡ text l.initial.self;
  size : length l.values ≡ length l.carriers;
  read : numbers l.carriers (text l.initial.self) l.initial.self.at ≡ prefixed (take l.i l.values) (numbers (drop l.i l.carriers) (text l.initial.self) l.self.at);
}
