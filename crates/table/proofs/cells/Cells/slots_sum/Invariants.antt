use Rattle.std.proofs.Common.{◌≡◌, ◌^◌, ◌<◌}
use Rattle.theory.specs.Count.{right_of, sum_slots}
use Rattle.table.specs.Rows.{first_row}
use Rattle.table.specs.Equations.{suffix_cell}
use Rattle.table.specs.CellsOf.{grammar_of, bound_of}
use Rattle.table.proofs.cells.Cells.slots_sum.Given as goal

abbrev pub invariant-loop-s : goal.invariant-loop-s
invariant-loop-s g l =
    let G = grammar_of l.self in
    (l.sum ≡ sum_slots G l.a (λ s. suffix_cell (bound_of l.self) l.self.cells.now (right_of (G.slot s)) (first_row G s) l.m) l.s) × (l.sum < 2 ^ 63)
