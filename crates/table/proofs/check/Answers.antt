use Rattle.std.proofs.Common.{ℕ, Ok, subst}
use Rattle.std.proofs.lemmas.Result.{err_from_is_err_and}
use Rattle.grammar.proofs.Derived.{ll1_of}
use Rattle.table.specs.Calls.{no_room, broken}
use Rattle.table.specs.Equations.{AllObey, LowestBroken}
use Rattle.table.proofs.Solution.{obey_sound}
use Rattle.table.proofs.Calls.{check_answer}
use Rattle.table.proofs.check.Goals as goal

pub returns-in_err-layout : goal.returns-in_err-layout
returns-in_err-layout g c =
    let p = err_from_is_err_and c.from_residual.result c.from_residual.ensures.1 in
    let f = g.met.G.Grammar.implements c.args.g.now in
    check_answer (ll1_of f) c.from_residual.result (rw (p.1, p.2) (no_room c.in_err-layout.ensures.room))

pub returns-in_err-check_all : goal.returns-in_err-check_all
returns-in_err-check_all g c =
    let p = err_from_is_err_and c.from_residual-in_err-check_all.result c.from_residual-in_err-check_all.ensures.1 in
    let G = g.G.Grammar.meaning c.args.g.now in
    let f = g.met.G.Grammar.implements c.args.g.now in
    let r = c.in_ok-layout.ensures.room in
    let d = subst (λ (L : ℕ). LowestBroken G L c.args.table.now.cells.now c.in_err-check_all.field-0.0.0) r.laid.bound c.in_err-check_all.ensures in
    check_answer (ll1_of f) _ (rw (p.1, p.2) (broken _ (record { small = r.small; enough = r.enough }) d))

pub returns : goal.returns
returns g c =
    let G = g.G.Grammar.meaning c.args.g.now in
    let f = g.met.G.Grammar.implements c.args.g.now in
    let r = c.in_ok-layout.ensures.room in
    let d = subst (λ (L : ℕ). AllObey G L c.args.table.now.cells.now) r.laid.bound c.in_ok-check_all.ensures in
    check_answer (ll1_of f) (Ok _) (record { small = r.small; enough = r.enough }, obey_sound (ll1_of f) d)
