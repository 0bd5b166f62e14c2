use Rattle.std.proofs.Common.{◌+◌, ◌<◌, arith}
use Rattle.table.specs.Rows.{first_row, rows}
use Rattle.table.specs.CellsOf.{grammar_of}
use Rattle.table.proofs.Rows.{suffix_before}
use Rattle.table.proofs.cells.Cells.slot_count.Goals as goal

pub cell-requires-clause-row : goal.cell-requires-clause-row
cell-requires-clause-row g c =
    let G = grammar_of c.args.self.now in
    let low : first_row G c.args.s + 0 < rows G = suffix_before G c.args.s G.slots 0 (omega arith) c.requires.inside in
    omega (arith, c.args.self.now.ready.laid.offsets c.args.s c.requires.inside)
