use Rattle.std.proofs.Common.{sym, ◌∙◌, arith, add-one, length-set}
use Rattle.script.specs.Cut.{unread}
use Rattle.script.proofs.Reading.{too_few, no_number, left_after, one_more, all_numbers}
use Rattle.script.proofs.arguments.numbers.Goals as goal

pub returns-in_err-next : goal.returns-in_err-next
returns-in_err-next g c = rw c.from_residual.ensures (too_few c.args.limit g.row.N c.loop-value.value-index (unread c.args.words) (sym c.loop-value.invariant.left ∙ c.in_err-next.ensures.steps.0) (omega arith))

pub returns-in_err-value : goal.returns-in_err-value
returns-in_err-value g c = rw c.from_residual-in_err-value.ensures (no_number c.args.limit g.row.N c.loop-value.value-index (unread c.args.words) _ _ (sym c.loop-value.invariant.left ∙ c.in_ok-next.ensures.steps) (omega arith) c.in_err-value.ensures)

pub loop-value-preserved : goal.loop-value-preserved
loop-value-preserved g c =
    let i = c.loop-value.value-index in
    let e = sym c.loop-value.invariant.left ∙ c.in_ok-next.ensures.steps in
    rw add-one (record {
      sized = length-set c.loop-value.value-items i _ ∙ c.loop-value.invariant.sized;
      left = left_after i (unread c.args.words) _ _ e;
      written = one_more c.args.limit i _ c.loop-value.value-items (unread c.args.words) _ _ e (omega arith) c.in_ok-value.ensures c.loop-value.invariant.written;
    })

pub returns : goal.returns
returns g c = rw c.then_some.ensures (all_numbers c.args.limit g.row.N c.loop-value.value-index c.loop-value.value-items (unread c.args.words) c.ended.result c.loop-value-test.false c.loop-value.invariant.sized c.loop-value.invariant.written (rw (← c.loop-value.invariant.left) c.ended.ensures))
