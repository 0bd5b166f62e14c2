use Rattle.theory.proofs.Laws.{lengths_listed}
use Rattle.theory.proofs.ascending_lists_lengths.Goals as goal

pub returns : goal.returns
returns c = lengths_listed
