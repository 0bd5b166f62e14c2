use Rattle.std.proofs.Common.{refl, arith}
use Rattle.stack.proofs.Tops.{taken}
use Rattle.stack.proofs.Stack.pop.Goals as goal

pub returns : goal.returns
returns g c = taken _ _ _ refl refl (omega (arith, c.in_ok-depth.ensures))
