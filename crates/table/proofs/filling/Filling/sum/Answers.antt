use Rattle.table.specs.Layouts.{read_sum, TermsRow}
use Rattle.table.specs.Filling.{Within}
use Rattle.table.specs.FillingOf.{bound_of}
use Rattle.table.proofs.RowTerms.{read_within, read_rows}
use Rattle.table.proofs.Stays.{read_back, read_on}
use Rattle.table.proofs.filling.Filling.sum.Goals as goal

pub sum_of-requires-clause-rows : goal.sum_of-requires-clause-rows
sum_of-requires-clause-rows g c =
    let f = g.met.G.Grammar.implements c.args.self.now.grammar.now in
    let h = read_rows f.limits c.terms_of.result c.requires c.terms_of.ensures in
    read_on c.view.ensures (λ x l t. TermsRow (g.G.Grammar.meaning x) c.terms_of.result) h

pub returns : goal.returns
returns g c =
    let x = c.args.self.now in
    let f = g.met.G.Grammar.implements x.grammar.now in
    let s = read_back c.view.ensures (λ h l t. Within (read_sum (g.G.Grammar.meaning h) l.bound t c.terms_of.result x.length) c.sum_of.result) c.sum_of.ensures in
    read_within f.limits (bound_of x) x.cells.now c.terms_of.result c.requires c.terms_of.ensures x.length c.sum_of.result s
