use Rattle.std.proofs.Common.{lit<}
use Rattle.script.specs.Cut.{unread}
use Rattle.script.proofs.Reading.{too_few, no_number, one_number}
use Rattle.script.proofs.arguments.one_byte.Goals as goal

pub returns-in_err-next : goal.returns-in_err-next
returns-in_err-next c = rw c.from_residual.ensures (too_few 255 1 0 (unread c.args.words) c.in_err-next.ensures.steps.0 (lit< tt))

pub returns-in_err-value : goal.returns-in_err-value
returns-in_err-value c = rw c.from_residual-in_err-value.ensures (no_number 255 1 0 (unread c.args.words) _ _ c.in_ok-next.ensures.steps (lit< tt) c.in_err-value.ensures)

pub returns : goal.returns
returns c = rw c.then_some.ensures (one_number 255 _ _ (unread c.args.words) _ c.ended.result c.in_ok-next.ensures.steps c.in_ok-value.ensures c.ended.ensures)
