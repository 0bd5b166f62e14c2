use Rattle.std.proofs.Common.{◌≡◌, length, map, take, drop}
use Rattle.script.specs.Cut.{unread}
use Rattle.script.specs.Says.{WriteAll, number}
use Rattle.script.proofs.arguments.numbers.Given as goal

abbrev pub invariant-loop-value : goal.invariant-loop-value
invariant-loop-value g l = record {
  sized : length l.value-items ≡ g.row.N;
  left : unread l.words ≡ drop l.value-index (unread l.fn.words);
  written : WriteAll (map (number l.fn.limit) (take l.value-index l.value-items)) (take l.value-index (unread l.fn.words));
}
