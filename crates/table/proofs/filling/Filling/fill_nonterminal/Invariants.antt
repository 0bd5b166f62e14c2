use Rattle.std.proofs.Common.{ℕ, ◌<◌}
use Rattle.table.specs.FillingOf.{PrefixRight, Stays}
use Rattle.table.proofs.filling.Filling.fill_nonterminal.Given as goal

abbrev pub invariant-loop-s : goal.invariant-loop-s
invariant-loop-s g l = Stays l.initial.self l.self × ((q : ℕ) → q < l.s → PrefixRight l.self l.a q)
