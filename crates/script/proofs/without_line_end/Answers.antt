use Rattle.std.proofs.Common.{rules}
use Rattle.script.proofs.LineEnds.{line_end_off}
use Rattle.script.proofs.without_line_end.Goals as goal

pub returns : goal.returns
returns c = search (rules, line_end_off)
