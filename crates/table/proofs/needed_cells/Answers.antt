use Rattle.std.proofs.Common.{arith}
use Rattle.std.proofs.lemmas.Result.{err_from_is_err_and}
use Rattle.table.proofs.Rows.{rows_few}
use Rattle.table.proofs.Calls.{needed_answer}
use Rattle.table.proofs.needed_cells.Goals as goal

pub returns-in_err-room : goal.returns-in_err-room
returns-in_err-room g c =
    let p = err_from_is_err_and c.from_residual.result c.from_residual.ensures.1 in
    needed_answer c.from_residual.result (rw (p.1, p.2) c.in_err-room.ensures.room)

pub needed-requires-clause-few : goal.needed-requires-clause-few
needed-requires-clause-few g c = omega (arith, rows_few (g.met.G.Grammar.implements c.args.g.now).limits, c.in_ok-room.ensures.room.laid.rows)
