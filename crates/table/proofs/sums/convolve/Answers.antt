use Rattle.std.proofs.Common.{◌≡◌, ◌+◌, ◌≤◌, sym, ap, arith, lit<}
use Rattle.theory.specs.Count.{sum_upward}
use Rattle.table.specs.Terms.{from_cell}
use Rattle.theory.proofs.Counting.{upward_none, upward_more, upward_le}
use Rattle.table.proofs.sums.convolve.Goals as goal

pub loop-j-init : goal.loop-j-init
loop-j-init c = (sym (upward_none _ _ _), lit< tt)

-- what passed the limit at j passes it at the end
pub returns-in_err-sum : goal.returns-in_err-sum
returns-in_err-sum c =
    let f = from_cell c.args.cells.now c.args.first in
    let h = from_cell c.args.cells.now c.args.rest in
    let more = upward_more f h c.args.m c.loop-j.j in
    let past = c.in_err-sum.ensures in
    let on : c.loop-j.j + 1 ≤ c.args.m + 1 = omega arith in
    let le = upward_le f h c.args.m (c.loop-j.j + 1) (c.args.m + 1) on in
    rw c.from_residual.ensures (omega arith)

pub loop-j-preserved : goal.loop-j-preserved
loop-j-preserved c =
    let f = from_cell c.args.cells.now c.args.first in
    let h = from_cell c.args.cells.now c.args.rest in
    let more = upward_more f h c.args.m c.loop-j.j in
    let got = c.in_ok-sum.ensures in
    (omega arith, omega arith)

-- the last turn is at m
pub returns-in_ok-sum : goal.returns-in_ok-sum
returns-in_ok-sum c =
    let f = from_cell c.args.cells.now c.args.first in
    let h = from_cell c.args.cells.now c.args.rest in
    let more = upward_more f h c.args.m c.loop-j.j in
    let got = c.in_ok-sum.ensures in
    let last : c.loop-j.j ≡ c.args.m = omega arith in
    let end = ap (λ x. sum_upward f h c.args.m (x + 1)) last in
    (omega arith, omega arith)
