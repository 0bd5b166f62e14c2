use Rattle.theory.proofs.Laws.{ranks_number}
use Rattle.theory.proofs.ranks_number_the_sentences.Goals as goal

pub returns : goal.returns
returns c = ranks_number
