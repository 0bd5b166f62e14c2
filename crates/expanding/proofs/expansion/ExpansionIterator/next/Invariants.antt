use Rattle.std.proofs.Common.{◌≡◌}
use Rattle.expanding.specs.Expansions.{Stands, to_come, measure_of}
use Rattle.expanding.proofs.expansion.ExpansionIterator.next.Given as goal

-- the same is still to come
abbrev pub invariant-loop-t : goal.invariant-loop-t
invariant-loop-t g l = Stands g.O.LengthPolicy.order l.self × (to_come g.O.LengthPolicy.order l.self ≡ to_come g.O.LengthPolicy.order l.initial.self)

abbrev pub decreases-loop-t : goal.decreases-loop-t
decreases-loop-t g l = measure_of l.self
