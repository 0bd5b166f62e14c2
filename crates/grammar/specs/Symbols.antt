-- The symbols of right-hand sides as values of the program. Assumes nothing.
use Rattle.std.specs.Prelude.{ℕ, zero, suc, ◌-◌, List, [], ◌∷◌, cond, Some, None, Option, nat_lt}
use Rattle.theory.specs.Grammar as theory
use Rattle.grammar.specs.declared.Symbol.{Symbol}
use Rattle.grammar.specs.declared.Symbol.TheVariants.{Terminal, Nonterminal}

-- the symbol that a byte says: t says terminal t, 128 + A says nonterminal A
abbrev pub symbol_of_byte : ℕ → Symbol
symbol_of_byte b = cond (nat_lt b 128) (Terminal b) (Nonterminal (b - 128))

-- a symbol as a value
abbrev pub value_of : theory.Symbol → Symbol
value_of (theory.terminal t) = Terminal t
value_of (theory.nonterminal A) = Nonterminal A

-- the symbol at a position, none past the end
abbrev pub symbol_at : List theory.Symbol → ℕ → Option Symbol
symbol_at [] i = None
symbol_at (X ∷ Xs) zero = Some (value_of X)
symbol_at (X ∷ Xs) (suc i) = symbol_at Xs i
