use Rattle.std.proofs.Common.{◌≡◌, ℕ, Option, ◌∙◌, sym, ap, subst, arith, lit<}
use Rattle.std.proofs.lemmas.Bool.{ne_eqb}
use Rattle.theory.specs.Count.{one_at, sum_splits}
use Rattle.table.specs.Terms.{rest_cell}
use Rattle.table.specs.Filling.{Within}
use Rattle.table.specs.CellsOf.{bound_of}
use Rattle.table.proofs.Terms.{terminal_none, terminal_before, known_sum}
use Rattle.table.proofs.cells.Cells.terminal_sum.Goals as goal

pub returns-in_default : goal.returns-in_default
returns-in_default g c =
    let e : c.args.m ≡ 0 = omega (arith, c.in_default.ensures) in
    known_sum _ 0 (terminal_none _ _ e) (lit< tt)

pub returns-then-before-eq0 : goal.returns-then-before-eq0
returns-then-before-eq0 g c =
    let f = λ (o : Option ℕ). rest_cell (bound_of c.args.self.now) c.args.self.now.cells.now o c.in-Some.before in
    known_sum _ 1 (terminal_before _ _ _ 1 c.in-Some.ensures.0 c.in-Some.ensures.1 (ap f c.in-None.is ∙ ap (one_at 0) c.if-before-eq0.true)) (lit< tt)

pub returns-else-before-eq0 : goal.returns-else-before-eq0
returns-else-before-eq0 g c =
    let f = λ (o : Option ℕ). rest_cell (bound_of c.args.self.now) c.args.self.now.cells.now o c.in-Some.before in
    let z : one_at 0 c.in-Some.before ≡ 0 = rw (ne_eqb c.in-Some.before 0 c.if-before-eq0.false) in
    known_sum _ 0 (terminal_before _ _ _ 0 c.in-Some.ensures.0 c.in-Some.ensures.1 (ap f c.in-None.is ∙ z)) (lit< tt)

pub returns-in-Some-rest : goal.returns-in-Some-rest
returns-in-Some-rest g c =
    let f = λ (o : Option ℕ). rest_cell (bound_of c.args.self.now) c.args.self.now.cells.now o c.in-Some.before in
    let h = rest_cell (bound_of c.args.self.now) c.args.self.now.cells.now c.args.rest in
    let e : sum_splits (one_at 1) h c.args.m ≡ c.cell.result = terminal_before h _ _ _ c.in-Some.ensures.0 c.in-Some.ensures.1 (ap f c.in-Some-rest.is ∙ sym c.cell.ensures) in
    subst (λ (n : ℕ). Within n c.within_limit.result) (sym e) c.within_limit.ensures
