use Rattle.table.specs.Rows.{first_row, place}
use Rattle.table.specs.Equations.{ObeyBelow}
use Rattle.table.specs.CellsOf.{grammar_of, bound_of}
use Rattle.table.proofs.cells.Cells.check_all.Given as goal

abbrev pub invariant-loop-a : goal.invariant-loop-a
invariant-loop-a g l = ObeyBelow (grammar_of l.self) (bound_of l.self) l.self.cells.now (place (bound_of l.self) l.a 0)

abbrev pub invariant-loop-s : goal.invariant-loop-s
invariant-loop-s g l = ObeyBelow (grammar_of l.self) (bound_of l.self) l.self.cells.now (place (bound_of l.self) (first_row (grammar_of l.self) l.s) 0)
