use Rattle.std.proofs.Common.{◌≡◌, ◌+◌}
use Rattle.walk.specs.Ways.{ways_before}
use Rattle.expanding.proofs.dividing.Unranking.open.Given as goal

abbrev pub invariant-loop-slot : goal.invariant-loop-slot
invariant-loop-slot g l = l.rank ≡ ways_before (g.G.Grammar.meaning l.self.counts.now.grammar.now) l.a l.m l.slot + l.left
