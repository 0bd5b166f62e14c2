use Rattle.table.specs.Rows.{place}
use Rattle.table.specs.Equations.{ObeyBelow}
use Rattle.table.specs.CellsOf.{grammar_of, bound_of}
use Rattle.table.proofs.cells.Cells.check_row.Given as goal

abbrev pub invariant-loop-m : goal.invariant-loop-m
invariant-loop-m g l = ObeyBelow (grammar_of l.self) (bound_of l.self) l.self.cells.now (place (bound_of l.self) l.at l.m)
