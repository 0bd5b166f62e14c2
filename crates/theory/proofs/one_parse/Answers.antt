use Rattle.theory.proofs.Laws.{one_parse_each}
use Rattle.theory.proofs.one_parse.Goals as goal

pub returns : goal.returns
returns c = one_parse_each
