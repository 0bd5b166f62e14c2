use Rattle.std.proofs.Common.{◌≡◌, ◌^◌, ◌<◌}
use Rattle.theory.specs.Count.{sum_upward}
use Rattle.table.specs.Terms.{from_cell}
use Rattle.table.proofs.sums.convolve.Given as goal

abbrev pub invariant-loop-j : goal.invariant-loop-j
invariant-loop-j l = (l.sum ≡ sum_upward (from_cell l.cells l.first) (from_cell l.cells l.rest) l.m l.j) × (l.sum < 2 ^ 63)
