use Rattle.theory.proofs.Laws.{one_way_to_nothing}
use Rattle.theory.proofs.at_most_one_way_to_nothing.Goals as goal

pub returns : goal.returns
returns c = one_way_to_nothing
