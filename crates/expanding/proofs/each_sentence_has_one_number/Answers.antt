use Rattle.expanding.proofs.Calls.{one_number}
use Rattle.expanding.proofs.each_sentence_has_one_number.Goals as goal

pub returns : goal.returns
returns c G level order ll lists n w s = one_number ll lists n w s
