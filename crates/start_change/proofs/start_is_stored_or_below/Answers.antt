use Rattle.start_change.proofs.Laws.{start_is_stored_or_below}
use Rattle.start_change.proofs.start_is_stored_or_below.Goals as goal

pub returns : goal.returns
returns c = start_is_stored_or_below
