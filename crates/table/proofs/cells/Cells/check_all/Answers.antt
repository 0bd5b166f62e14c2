use Rattle.std.proofs.Common.{◌≡◌, ℕ, subst, arith}
use Rattle.table.specs.Rows.{first_row, place}
use Rattle.table.specs.Equations.{ObeyBelow}
use Rattle.table.specs.CellsOf.{grammar_of, bound_of}
use Rattle.table.proofs.Rows.{first_row_none, obey_all}
use Rattle.table.proofs.cells.Cells.check_all.Goals as goal

pub loop-s-init : goal.loop-s-init
loop-s-init g c =
    let G = grammar_of c.args.self.now in
    let L = bound_of c.args.self.now in
    let e : c.loop-a.a ≡ first_row G 0 = omega (arith, first_row_none G) in
    subst (λ (r : ℕ). ObeyBelow G L c.args.self.now.cells.now (place L r 0)) e c.loop-a.invariant

pub returns : goal.returns
returns g c =
    let G = grammar_of c.args.self.now in
    let L = bound_of c.args.self.now in
    let e : c.loop-s.s ≡ G.slots = omega arith in
    obey_all G L c.args.self.now.cells.now (subst (λ (s : ℕ). ObeyBelow G L c.args.self.now.cells.now (place L (first_row G s) 0)) e c.loop-s.invariant)
