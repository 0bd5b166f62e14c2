use Rattle.theory.proofs.Laws.{strict_total}
use Rattle.theory.proofs.split_order_is_strict_and_total.Goals as goal

pub returns : goal.returns
returns c = strict_total
