use Rattle.table.proofs.Places.{cells_of_rows}
use Rattle.table.proofs.needed_cells_are_those_of_the_rows.Goals as goal

pub returns : goal.returns
returns c = cells_of_rows
