use Rattle.restriction.proofs.Laws.{all_bits_change_nothing}
use Rattle.restriction.proofs.all_bits_change_nothing.Goals as goal

pub returns : goal.returns
returns c = all_bits_change_nothing
