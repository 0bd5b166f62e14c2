use Rattle.table.proofs.Solution.{one_solution}
use Rattle.table.proofs.equations_have_one_solution.Goals as goal

pub returns : goal.returns
returns c = one_solution
