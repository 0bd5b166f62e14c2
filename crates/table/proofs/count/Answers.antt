use Rattle.std.proofs.Common.{ℕ, Ok, refl, subst}
use Rattle.std.proofs.lemmas.Result.{err_from_is_err_and}
use Rattle.grammar.proofs.Derived.{ll1_of}
use Rattle.table.specs.Calls.{Filled, Stopped, no_room, too_large}
use Rattle.table.proofs.Solution.{right_sound, first_passes}
use Rattle.table.proofs.Calls.{count_answer}
use Rattle.table.proofs.count.Goals as goal

pub returns-in_err-layout-clause-answer : goal.returns-in_err-layout-clause-answer
returns-in_err-layout-clause-answer g c =
    let p = err_from_is_err_and c.from_residual.result c.from_residual.ensures.1 in
    let f = g.met.G.Grammar.implements c.args.g.now in
    count_answer (ll1_of f) {u = c.args.table.now.cells.now} c.from_residual.result (rw (p.1, p.2) (no_room c.in_err-layout.ensures.room (refl {a = c.args.table.now.cells.now})))

pub returns-in_err-count_cells-clause-answer : goal.returns-in_err-count_cells-clause-answer
returns-in_err-count_cells-clause-answer g c =
    let p = err_from_is_err_and c.from_residual-in_err-count_cells.result c.from_residual-in_err-count_cells.ensures.1 in
    let G = g.G.Grammar.meaning c.args.g.now in
    let f = g.met.G.Grammar.implements c.args.g.now in
    let r = c.in_ok-layout.ensures.room in
    let d = subst (λ (L : ℕ). Stopped G L c.args.table.now.cells.now c.count_cells.new.cells c.in_err-count_cells.field-0.0.length) r.laid.bound c.in_err-count_cells.ensures in
    count_answer (ll1_of f) {u = c.count_cells.new.cells} _ (rw (p.1, p.2) (too_large _ (record { small = r.small; enough = r.enough }) (first_passes (ll1_of f) _ d) d.zeroed))

pub returns-clause-answer : goal.returns-clause-answer
returns-clause-answer g c =
    let G = g.G.Grammar.meaning c.args.g.now in
    let f = g.met.G.Grammar.implements c.args.g.now in
    let r = c.in_ok-layout.ensures.room in
    let d = subst (λ (L : ℕ). Filled G L c.args.table.now.cells.now c.count_cells.new.cells) r.laid.bound c.in_ok-count_cells.ensures in
    count_answer (ll1_of f) {u = c.count_cells.new.cells} (Ok _) (record { room = record { small = r.small; enough = r.enough }; sound = right_sound (ll1_of f) d.right; rest = d.rest })
