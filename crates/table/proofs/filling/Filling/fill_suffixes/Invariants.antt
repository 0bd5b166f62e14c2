use Rattle.std.proofs.Common.{ℕ, ◌<◌, ◌≤◌}
use Rattle.table.specs.FillingOf.{Right, Stays}
use Rattle.table.specs.declared.Row.TheVariants.{Suffix}
use Rattle.table.proofs.filling.Filling.fill_suffixes.Given as goal

abbrev pub invariant-loop-position : goal.invariant-loop-position
invariant-loop-position g l = Stays l.initial.self l.self × ((q : ℕ) → l.position ≤ q → q < l.to → Right l.self (Suffix l.s q))
