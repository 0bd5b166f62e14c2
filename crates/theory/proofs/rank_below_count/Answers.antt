use Rattle.theory.proofs.Laws.{rank_below}
use Rattle.theory.proofs.rank_below_count.Goals as goal

pub returns : goal.returns
returns c = rank_below
