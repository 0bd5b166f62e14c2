use Rattle.std.proofs.Common.{rules}
use Rattle.script.proofs.Cutting.{all_read}
use Rattle.script.proofs.words.Words.ended.Goals as goal

pub returns : goal.returns
returns c = search (rules, all_read)
