use Rattle.std.proofs.Common.{ℕ, ◌+◌, ◌*◌, refl, ap, subst, ⊎_elim, arith}
use Rattle.std.proofs.lemmas.Result.{err_from_is_err_and}
use Rattle.table.specs.Checked.{Short, no_room, too_long, short_stack, short_output}
use Rattle.table.proofs.Calls.{enough}
use Rattle.table.proofs.sufficient.Goals as goal

pub returns-then-length-bound : goal.returns-then-length-bound
returns-then-length-bound g c = too_long (omega arith) (omega arith)

pub returns-in_err-layout : goal.returns-in_err-layout
returns-in_err-layout g c =
    let p = err_from_is_err_and c.from_residual.result c.from_residual.ensures.1 in
    rw (p.1, p.2) (no_room (λ l. ⊎_elim (λ w. omega arith) (λ w. omega arith) c.else-bound-le-GREATEST_BOUND.either) c.in_err-layout.ensures.room)

pub returns-then-is_short : goal.returns-then-is_short
returns-then-is_short g c =
    let r = c.in_ok-layout.ensures.room in
    let n = ap (λ (x : ℕ). (c.args.length + 1) * x) c.nonterminals.ensures in
    short_stack (record { small = r.small; enough = r.enough }) (⊎_elim (λ w. omega arith) (λ w. omega (arith, r.small)) c.else-bound-le-GREATEST_BOUND.either)
    (subst (λ (x : ℕ). Short c.args.lent.stack x) n (c.if-is_short.ensures.0 refl))

pub returns-then-is_short-2 : goal.returns-then-is_short-2
returns-then-is_short-2 g c =
    let r = c.in_ok-layout.ensures.room in
    let n = ap (λ (x : ℕ). (c.args.length + 1) * x) c.nonterminals.ensures in
    short_output (record { small = r.small; enough = r.enough }) (⊎_elim (λ w. omega arith) (λ w. omega (arith, r.small)) c.else-bound-le-GREATEST_BOUND.either)
    (enough c.args.lent.stack n c.is_short.ensures c.if-is_short.false) (c.if-is_short-2.ensures.0 refl)

pub returns : goal.returns
returns g c =
    let r = c.in_ok-layout.ensures.room in
    let n = ap (λ (x : ℕ). (c.args.length + 1) * x) c.nonterminals.ensures in
    record {
      sufficient = record {
        room = record { small = r.small; enough = r.enough };
        short = ⊎_elim (λ w. omega arith) (λ w. omega (arith, r.small)) c.else-bound-le-GREATEST_BOUND.either;
        stack = enough c.args.lent.stack n c.is_short.ensures c.if-is_short.false;
        output = enough c.args.lent.output refl c.is_short-2.ensures c.if-is_short-2.false;
      };
      laid = r.laid;
      past = c.in_ok-layout.ensures.past;
    }
