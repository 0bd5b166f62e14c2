use Rattle.std.proofs.Common.{◌≡◌, ℕ, ◌<◌}
use Rattle.table.specs.FillingOf.{grammar_of, DoneRight, Stays}
use Rattle.table.proofs.filling.Filling.fill_nonterminals.Given as goal

abbrev pub invariant-loop-level : goal.invariant-loop-level
invariant-loop-level g l =
    let h = g.G.Grammar.levels l.self.grammar.now in
    Stays l.initial.self l.self × ((B : ℕ) → B < (grammar_of l.self).nonterminals → h B < l.level → DoneRight l.self B)

abbrev pub invariant-loop-a : goal.invariant-loop-a
invariant-loop-a g l =
    let h = g.G.Grammar.levels l.self.grammar.now in
    Stays l.initial.self l.self × ((B : ℕ) → B < (grammar_of l.self).nonterminals → h B < l.level → DoneRight l.self B)
    × ((B : ℕ) → B < l.a → h B ≡ l.level → DoneRight l.self B)
