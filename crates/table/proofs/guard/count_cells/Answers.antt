use Rattle.std.proofs.Common.{arith}
use Rattle.table.proofs.Rows.{rows_few}
use Rattle.table.proofs.Fills.{keeps_table}
use Rattle.table.proofs.guard.count_cells.Goals as goal

pub needed-requires-clause-few : goal.needed-requires-clause-few
needed-requires-clause-few g c = omega (arith, rows_few (g.met.G.Grammar.implements c.args.g.now).limits, c.requires.ready.laid.rows)

pub fill_length-requires : goal.fill_length-requires
fill_length-requires g c =
    record { table = keeps_table c.loop-m.invariant.3 c.requires.ready; short = omega arith; below = c.loop-m.invariant.4 }
