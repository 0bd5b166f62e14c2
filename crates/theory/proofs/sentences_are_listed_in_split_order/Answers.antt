use Rattle.theory.proofs.Laws.{sentences_listed}
use Rattle.theory.proofs.sentences_are_listed_in_split_order.Goals as goal

pub returns : goal.returns
returns c = sentences_listed
