use Rattle.start_change.proofs.Laws.{derivations_are_those_below}
use Rattle.start_change.proofs.derivations_are_those_below.Goals as goal

pub returns : goal.returns
returns c = derivations_are_those_below
