use Rattle.std.proofs.Common.{◌+◌, ◌*◌, ap, arith}
use Rattle.table.specs.Calls.{too_long, short_cells}
use Rattle.table.specs.Rows.{rows}
use Rattle.table.proofs.Rows.{rows_few}
use Rattle.table.proofs.room.Goals as goal

pub returns-then-bound-gt-GREATEST_BOUND-clause-room : goal.returns-then-bound-gt-GREATEST_BOUND-clause-room
returns-then-bound-gt-GREATEST_BOUND-clause-room g c = too_long c.if-bound-gt-GREATEST_BOUND.true

pub needed-requires-clause-few : goal.needed-requires-clause-few
needed-requires-clause-few g c = omega (arith, rows_few (g.met.G.Grammar.implements c.args.g.now).limits, c.lay_out-layout.ensures.laid.rows)

pub returns-then-needed-cells-clause-room : goal.returns-then-needed-cells-clause-room
returns-then-needed-cells-clause-room g c =
    let L = c.lay_out-layout.ensures.laid in
    short_cells (omega arith) (omega (arith, c.if-needed-cells.true, c.needed.ensures, ap (λ x. x * (c.lay_out-layout.result.bound + 1)) L.rows, ap (λ x. rows (g.G.Grammar.meaning c.args.g.now) * (x + 1)) L.bound))
