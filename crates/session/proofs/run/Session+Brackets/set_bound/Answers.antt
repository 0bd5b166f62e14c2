use Rattle.std.proofs.Common.{refl}
use Rattle.session.specs.Runs as runs
use Rattle.session.proofs.run.Session+Brackets.set_bound.Goals as goal

pub returns : goal.returns
returns c = runs.bound c.args.bound (record { kinds = refl; mask = refl; start = refl }) refl refl refl refl
