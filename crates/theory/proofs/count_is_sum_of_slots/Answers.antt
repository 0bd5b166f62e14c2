use Rattle.theory.proofs.Laws.{count_by_ways}
use Rattle.theory.proofs.count_is_sum_of_slots.Goals as goal

pub returns : goal.returns
returns c = count_by_ways
