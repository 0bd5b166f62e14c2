use Rattle.std.proofs.Common.{◌≡◌, ℕ, Some, None, Option, Err, sym, refl, ap, arith}
use Rattle.std.specs.Option.{ok_or}
use Rattle.std.proofs.lemmas.Result.{err_from_is_err_and}
use Rattle.table.specs.FillingOf.{bound_of}
use Rattle.table.specs.declared.filling.TooLarge.{TooLarge}
use Rattle.table.proofs.Rows.{row_cell, place_small}
use Rattle.table.proofs.Fills.{keeps_ready}
use Rattle.table.proofs.Stays.{written}
use Rattle.table.proofs.filling.Filling.fill.Goals as goal

-- what refuses is the error that stands for none
refused : (o : Option ℕ) (e r : TooLarge) → ok_or o r ≡ Err e → e ≡ r
refused None e r h = cc
refused (Some v) e r h = cc

pub place-i-requires-clause-fits : goal.place-i-requires-clause-fits
place-i-requires-clause-fits g c =
    let x = c.args.self.now in
    let f = g.met.G.Grammar.implements x.grammar.now in
    omega (arith, place_small f.limits c.requires.stands (bound_of x) x.length x.ready.table.room.small x.ready.short)

pub offset_bounds-self-i : goal.offset_bounds-self-i
offset_bounds-self-i g c =
    let x = c.args.self.now in
    let f = g.met.G.Grammar.implements x.grammar.now in
    omega (arith, place_small f.limits c.requires.stands (bound_of x) x.length x.ready.table.room.small x.ready.short)

pub bounds-self-i : goal.bounds-self-i
bounds-self-i g c =
    let x = c.args.self.now in
    omega (arith, row_cell x.ready.table.room c.requires.stands x.length x.ready.short)

pub returns-in_err-self-clause-done : goal.returns-in_err-self-clause-done
returns-in_err-self-clause-done g c =
    let x = c.args.self.now in
    let p = err_from_is_err_and c.from_residual.result c.from_residual.ensures.1 in
    let none : c.sum-sum.result ≡ None = c.in_err-self.ensures.ok_part in
    let w = rw none at c.sum-sum.ensures in
    let e : c.in_err-self.field-0.0 ≡ record { length = x.length } = refused c.sum-sum.result _ _ (sym c.in_err-self.ensures.value) in
    rw (p.1, p.2) (record { row = c.args.row; is_row = c.requires.stands.is_row; over = omega (arith, w, c.requires.due) }, ap (λ x. x.length) e)

pub invariant_of-self : goal.invariant_of-self
invariant_of-self g c =
    let x = c.args.self.now in
    let some : c.sum-sum.result ≡ Some c.in_ok-self.field-0 = c.in_ok-self.ensures.ok_part in
    let d = written x c.requires.stands c.in_ok-self.field-0 c.place-i.result (rw some at c.sum-sum.ensures) c.requires.due c.place-i.ensures in
    record { ready = keeps_ready d.0 x.ready }

pub returns : goal.returns
returns g c =
    let x = c.args.self.now in
    let some : c.sum-sum.result ≡ Some c.in_ok-self.field-0 = c.in_ok-self.ensures.ok_part in
    let d = written x c.requires.stands c.in_ok-self.field-0 c.place-i.result (rw some at c.sum-sum.ensures) c.requires.due c.place-i.ensures in
    record { stays = record { grammar = refl; layout = refl; lent = refl; length = refl; keeps = d.0 }; done = d.1 }
