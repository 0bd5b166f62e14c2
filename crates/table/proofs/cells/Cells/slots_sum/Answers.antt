use Rattle.std.proofs.Common.{ℕ, ◌+◌, ◌≤◌, sym, arith, lit<}
use Rattle.theory.specs.Count.{right_of}
use Rattle.theory.proofs.Counting.{slots_none, slots_more, slots_le}
use Rattle.table.specs.Rows.{first_row}
use Rattle.table.specs.Equations.{suffix_cell}
use Rattle.table.specs.CellsOf.{grammar_of, bound_of}
use Rattle.table.proofs.cells.Cells.slots_sum.Goals as goal

pub loop-s-init : goal.loop-s-init
loop-s-init g c = (sym (slots_none _ _ _), lit< tt)

pub returns-in_err-sum : goal.returns-in_err-sum
returns-in_err-sum g c =
    let G = grammar_of c.args.self.now in
    let f = λ (s : ℕ). suffix_cell (bound_of c.args.self.now) c.args.self.now.cells.now (right_of (G.slot s)) (first_row G s) c.args.m in
    let more = slots_more G c.args.a f c.loop-s.s in
    let on : c.loop-s.s + 1 ≤ G.slots = omega arith in
    let le = slots_le G c.args.a f (c.loop-s.s + 1) G.slots on in
    let past = c.in_err-sum.ensures in
    rw c.from_residual.ensures (omega (arith, c.slot_count.ensures))

pub loop-s-preserved : goal.loop-s-preserved
loop-s-preserved g c =
    let G = grammar_of c.args.self.now in
    let f = λ (s : ℕ). suffix_cell (bound_of c.args.self.now) c.args.self.now.cells.now (right_of (G.slot s)) (first_row G s) c.args.m in
    let more = slots_more G c.args.a f c.loop-s.s in
    let got = c.in_ok-sum.ensures in
    (omega (arith, c.slot_count.ensures), omega arith)
