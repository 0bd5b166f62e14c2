use Rattle.std.proofs.Common.{ℕ, Ok, refl, subst}
use Rattle.std.proofs.lemmas.Result.{err_from_is_err_and}
use Rattle.grammar.proofs.Derived.{ll1_of}
use Rattle.table.specs.Checked.{insufficient, broken}
use Rattle.table.specs.Equations.{AllObey, LowestBroken}
use Rattle.table.proofs.Solution.{obey_sound}
use Rattle.table.proofs.Calls.{checked_answer}
use Rattle.table.proofs.checked.Goals as goal

pub returns-in_err-layout : goal.returns-in_err-layout
returns-in_err-layout g c =
    let p = err_from_is_err_and c.from_residual.result c.from_residual.ensures.1 in
    let f = g.met.G.Grammar.implements c.args.g.now in
    checked_answer (ll1_of f) c.from_residual.result (rw (p.1, p.2) (insufficient c.in_err-layout.ensures))

pub returns-in_err-check_all : goal.returns-in_err-check_all
returns-in_err-check_all g c =
    let p = err_from_is_err_and c.from_residual-in_err-check_all.result c.from_residual-in_err-check_all.ensures.1 in
    let G = g.G.Grammar.meaning c.args.g.now in
    let f = g.met.G.Grammar.implements c.args.g.now in
    let r = c.in_ok-layout.ensures in
    let d = subst (λ (L : ℕ). LowestBroken G L c.args.table.now.cells.now c.in_err-check_all.field-0.0.0) r.laid.bound c.in_err-check_all.ensures in
    checked_answer (ll1_of f) _ (rw (p.1, p.2) (broken _ r.sufficient d))

pub returns : goal.returns
returns g c =
    let G = g.G.Grammar.meaning c.args.g.now in
    let f = g.met.G.Grammar.implements c.args.g.now in
    let r = c.in_ok-layout.ensures in
    let d = subst (λ (L : ℕ). AllObey G L c.args.table.now.cells.now) r.laid.bound c.in_ok-check_all.ensures in
    checked_answer (ll1_of f) (Ok _)
    (record { sufficient = r.sufficient; sound = obey_sound (ll1_of f) d }, record { read = refl; bound = r.laid.bound; rows = r.laid.rows; offsets = r.laid.offsets; no_offsets = r.past })
