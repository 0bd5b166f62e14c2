use Rattle.theory.proofs.Laws.{sets_by_forms}
use Rattle.theory.proofs.sets_mean_what_they_say.Goals as goal

pub returns : goal.returns
returns c = sets_by_forms
