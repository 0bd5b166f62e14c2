use Rattle.std.proofs.Common.{◌≡◌, ◌+◌, take}
use Rattle.walk.specs.Splits.{sum_listed}
use Rattle.expanding.specs.Dividing.{cell_of}
use Rattle.expanding.proofs.dividing.divide.Given as goal

abbrev pub invariant-loop-i : goal.invariant-loop-i
invariant-loop-i g l = l.rank ≡ sum_listed (cell_of l.first) (cell_of l.rest) l.m (take l.i (g.O.LengthPolicy.order l.policy l.m)) + l.left
