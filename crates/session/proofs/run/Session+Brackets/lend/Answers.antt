use Rattle.std.proofs.Common.{refl}
use Rattle.session.specs.Runs as runs
use Rattle.session.proofs.run.Session+Brackets.lend.Goals as goal

pub returns-clause-answer : goal.returns-clause-answer
returns-clause-answer c = runs.memory c.args.cells c.args.stack c.args.output (record { kinds = refl; mask = refl; start = refl }) c.in_ok-self.ensures refl refl refl
