use Rattle.std.proofs.Common.{take}
use Rattle.theory.specs.Sets.{Nullable}
use Rattle.theory.specs.Count.{right_of}
use Rattle.table.specs.CellsOf.{grammar_of}
use Rattle.table.proofs.cells.Cells.prefix_end.Given as goal

abbrev pub invariant-loop-p : goal.invariant-loop-p
invariant-loop-p g l = Nullable (grammar_of l.self) (take l.p (right_of ((grammar_of l.self).slot l.s)))
