use Rattle.restriction.proofs.Laws.{derivations_use_kept_slots}
use Rattle.restriction.proofs.derivations_use_kept_slots.Goals as goal

pub returns : goal.returns
returns c = derivations_use_kept_slots
