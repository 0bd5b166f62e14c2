use Rattle.theory.proofs.Laws.{numbers_unique}
use Rattle.theory.proofs.counts_and_ranks_are_unique.Goals as goal

pub returns : goal.returns
returns c = numbers_unique
