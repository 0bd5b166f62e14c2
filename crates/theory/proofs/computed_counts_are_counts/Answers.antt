use Rattle.theory.proofs.Laws.{counts_computed}
use Rattle.theory.proofs.computed_counts_are_counts.Goals as goal

pub returns : goal.returns
returns c = counts_computed
