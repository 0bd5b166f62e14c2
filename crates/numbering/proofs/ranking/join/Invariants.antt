use Rattle.std.proofs.Common.{◌≡◌, ℕ, ◌<◌, get_or, take}
use Rattle.walk.specs.Splits.{sum_listed}
use Rattle.numbering.specs.Parts.{entry_at}
use Rattle.numbering.proofs.ranking.join.Given as goal

-- the products of the lengths so far, none of which is that of the first part
abbrev pub invariant-loop-i : goal.invariant-loop-i
invariant-loop-i g l =
    (l.before ≡ sum_listed (entry_at l.firsts) (entry_at l.rests) l.m (take l.i (g.O.LengthPolicy.order l.policy l.m)))
    × ((n : ℕ) → n < l.i → get_or (g.O.LengthPolicy.order l.policy l.m) n 0 ≡ l.part.length → ⊥)
