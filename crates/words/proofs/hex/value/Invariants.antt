use Rattle.std.proofs.Common.{◌≡◌, ◌^◌, ◌<◌, true, take}
use Rattle.words.specs.Numbers.{is_number, value_of}
use Rattle.words.proofs.hex.value.Given as goal

abbrev pub invariant-loop-b : goal.invariant-loop-b
invariant-loop-b l = record {
  digits : is_number (take l.b-index l.word) ≡ true;
  value : l.v ≡ value_of (take l.b-index l.word);
  small : l.v < 16 ^ l.b-index;
}
