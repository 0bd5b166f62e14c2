use Rattle.std.proofs.Common.{◌≡◌, ℕ, ◌+◌, subst, arith}
use Rattle.table.specs.Rows.{first_row, place}
use Rattle.table.specs.Equations.{ObeyBelow}
use Rattle.table.specs.CellsOf.{grammar_of, bound_of}
use Rattle.table.proofs.Rows.{first_row_more}
use Rattle.table.proofs.cells.Cells.check_slot.Goals as goal

pub returns : goal.returns
returns g c =
    let G = grammar_of c.args.self.now in
    let L = bound_of c.args.self.now in
    let e : first_row G c.args.s + c.loop-position.position ≡ first_row G (c.args.s + 1) = omega (arith, first_row_more G c.args.s, c.length-position-end.ensures) in
    subst (λ (r : ℕ). ObeyBelow G L c.args.self.now.cells.now (place L r 0)) e c.loop-position.invariant
