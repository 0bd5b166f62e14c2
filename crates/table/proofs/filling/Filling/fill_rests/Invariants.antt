use Rattle.std.proofs.Common.{ℕ, ◌<◌}
use Rattle.table.specs.Rows.{RowOf}
use Rattle.table.specs.FillingOf.{grammar_of, Right, Stays}
use Rattle.table.specs.declared.Row.TheVariants.{Suffix}
use Rattle.table.proofs.filling.Filling.fill_rests.Given as goal

abbrev pub invariant-loop-s : goal.invariant-loop-s
invariant-loop-s g l = Stays l.initial.self l.self × ((s q : ℕ) → s < l.s → RowOf (grammar_of l.self) (Suffix s q) → Right l.self (Suffix s q))
