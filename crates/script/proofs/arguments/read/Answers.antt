use Rattle.std.proofs.Common.{sym, arith}
use Rattle.script.proofs.Reading.{three_numbers}
use Rattle.script.proofs.arguments.read.Goals as goal

pub returns-in_ok-cells-in-Memory : goal.returns-in_ok-cells-in-Memory
returns-in_ok-cells-in-Memory c = (sym c.in-Memory.is, three_numbers _ c.in_ok-cells-in-Memory.field-0 _ (omega arith) c.in_ok-cells-in-Memory.ensures)
