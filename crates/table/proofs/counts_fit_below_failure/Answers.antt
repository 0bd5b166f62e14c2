use Rattle.table.proofs.Solution.{fit_below}
use Rattle.table.proofs.counts_fit_below_failure.Goals as goal

pub returns : goal.returns
returns c = fit_below
