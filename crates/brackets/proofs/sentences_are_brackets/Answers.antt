use Rattle.brackets.proofs.Laws.{sentences_are_brackets}
use Rattle.brackets.proofs.sentences_are_brackets.Goals as goal

pub returns : goal.returns
returns c = sentences_are_brackets
