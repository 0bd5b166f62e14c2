use Rattle.std.proofs.Common.{◌+◌}
use Rattle.table.specs.Rows.{first_row, place}
use Rattle.table.specs.Equations.{ObeyBelow}
use Rattle.table.specs.CellsOf.{grammar_of, bound_of}
use Rattle.table.proofs.cells.Cells.check_slot.Given as goal

abbrev pub invariant-loop-position : goal.invariant-loop-position
invariant-loop-position g l =
    ObeyBelow (grammar_of l.self) (bound_of l.self) l.self.cells.now (place (bound_of l.self) (first_row (grammar_of l.self) l.s + l.position) 0)
