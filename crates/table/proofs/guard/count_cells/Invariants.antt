use Rattle.std.proofs.Common.{◌≡◌, false}
use Rattle.table.specs.Rows.{needed}
use Rattle.table.specs.Filling.{Keeps, CorrectBelow}
use Rattle.table.proofs.guard.count_cells.Given as goal

abbrev pub invariant-loop-m : goal.invariant-loop-m
invariant-loop-m g l =
    let G = g.G.Grammar.meaning l.g in
    (l.initial.counting.cells.ghost_name ≡ l.counting.cells.ghost_name) × (l.counting.needed ≡ needed G l.layout.bound) × (l.counting.accepted ≡ false)
    × Keeps G l.layout.bound l.initial.counting.cells.now l.counting.cells.now × CorrectBelow G l.layout.bound l.counting.cells.now l.m
