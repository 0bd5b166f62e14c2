use Rattle.std.proofs.Common.{◌∙◌}
use Rattle.walk.proofs.Ascending.{ascending_at}
use Rattle.walk.proofs.ShortestFirstLengthPolicy.length_at.Goals as goal

pub returns : goal.returns
returns c = c.ascending_length.ensures ∙ ascending_at c.args.m c.args.i
