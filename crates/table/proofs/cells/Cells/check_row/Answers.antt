use Rattle.std.proofs.Common.{◌+◌, arith}
use Rattle.table.specs.CellsOf.{grammar_of, bound_of}
use Rattle.table.proofs.Rows.{row_inside, row_after, place_small}
use Rattle.table.proofs.RowTerms.{read_within, read_rows, row_broken, row_agrees}
use Rattle.table.proofs.cells.Cells.check_row.Goals as goal

pub sum_of-requires-clause-rows : goal.sum_of-requires-clause-rows
sum_of-requires-clause-rows g c =
    let f = g.met.G.Grammar.implements c.args.self.now.grammar.now in
    read_rows f.limits c.terms_of-terms.result c.requires.stands c.terms_of-terms.ensures

pub cell-requires-clause-row : goal.cell-requires-clause-row
cell-requires-clause-row g c = row_inside c.requires.stands

pub place-requires : goal.place-requires
place-requires g c =
    let x = c.args.self.now in
    let f = g.met.G.Grammar.implements x.grammar.now in
    record { low = x.ready.room.small; fits = omega (arith, place_small f.limits c.requires.stands (bound_of x) c.loop-m.m x.ready.room.small (omega arith)) }

pub returns-then-ne : goal.returns-then-ne
returns-then-ne g c =
    let G = grammar_of c.args.self.now in
    let f = g.met.G.Grammar.implements c.args.self.now.grammar.now in
    let w = read_within f.limits (bound_of c.args.self.now) c.args.self.now.cells.now c.terms_of-terms.result c.requires.stands c.terms_of-terms.ensures c.loop-m.m c.sum_of.result c.sum_of.ensures in
    row_broken c.requires.stands c.loop-m.m c.place.result c.cell.result c.sum_of.result (omega arith) c.loop-m.invariant c.place.ensures w c.cell.ensures c.if-ne.ensures

pub loop-m-preserved : goal.loop-m-preserved
loop-m-preserved g c =
    let f = g.met.G.Grammar.implements c.args.self.now.grammar.now in
    let w = read_within f.limits (bound_of c.args.self.now) c.args.self.now.cells.now c.terms_of-terms.result c.requires.stands c.terms_of-terms.ensures c.loop-m.m c.sum_of.result c.sum_of.ensures in
    row_agrees c.requires.stands c.loop-m.m c.cell.result c.sum_of.result (omega arith) c.loop-m.invariant w c.cell.ensures c.if-ne.ensures

pub returns-else-ne : goal.returns-else-ne
returns-else-ne g c =
    let f = g.met.G.Grammar.implements c.args.self.now.grammar.now in
    let w = read_within f.limits (bound_of c.args.self.now) c.args.self.now.cells.now c.terms_of-terms.result c.requires.stands c.terms_of-terms.ensures c.loop-m.m c.sum_of.result c.sum_of.ensures in
    let e = row_agrees c.requires.stands c.loop-m.m c.cell.result c.sum_of.result (omega arith) c.loop-m.invariant w c.cell.ensures c.if-ne.ensures in
    rw (← row_after (bound_of c.args.self.now) c.args.at (c.loop-m.m + 1) (omega arith)) e
