use Rattle.std.proofs.Common.{ℕ, Option, ◌∙◌, sym, ap, subst}
use Rattle.grammar.specs.declared.Symbol.{Symbol}
use Rattle.grammar.specs.declared.Symbol.TheVariants.{Nonterminal}
use Rattle.table.specs.Rows.{cell_at}
use Rattle.table.specs.Terms.{symbol_sum}
use Rattle.table.specs.Filling.{Within}
use Rattle.table.specs.CellsOf.{bound_of}
use Rattle.table.proofs.Terms.{last_sum}
use Rattle.table.proofs.cells.Cells.split_sum.Goals as goal

pub returns-in-Nonterminal-None : goal.returns-in-Nonterminal-None
returns-in-Nonterminal-None g c =
    let L = bound_of c.args.self.now in
    let t = c.args.self.now.cells.now in
    let X = Nonterminal c.in-Nonterminal-None.a in
    let e = ap (λ (Y : Symbol). symbol_sum L t Y c.args.rest c.args.m) c.in-Nonterminal-None.is-0 ∙ ap (λ (o : Option ℕ). symbol_sum L t X o c.args.m) c.in-Nonterminal-None.is-1
    ∙ last_sum (cell_at L t c.in-Nonterminal-None.a) c.args.m in
    subst (λ (n : ℕ). Within n c.within_limit.result) (c.cell.ensures ∙ sym e) c.within_limit.ensures
