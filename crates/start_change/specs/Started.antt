-- The grammar below with another start, and what setting the start answers. Assumes nothing.
use Rattle.std.specs.Prelude.{ℕ, cond, Some, None, Ok, Err, Option, Result, nat_lt}
use Rattle.fault.specs.declared.Fault.{Fault}
use Rattle.fault.specs.declared.Fault.TheVariants.{SettingRefused}
use Rattle.theory.specs.Grammar.{Cfg}

-- the effective start: the stored one if it is a nonterminal, else that of the grammar below
abbrev pub effective_start : Cfg → Option ℕ → ℕ
effective_start G None = G.start
effective_start G (Some A) = cond (nat_lt A G.nonterminals) A G.start

-- the grammar with another start
abbrev pub with_start : Cfg → Option ℕ → Cfg
with_start G o =
    record { terminals = G.terminals; nonterminals = G.nonterminals; start = effective_start G o; slots = G.slots; slot = G.slot }

-- what setting the start A over N nonterminals answers
abbrev pub start_answer : ℕ → ℕ → Result Unit Fault
start_answer N A = cond (nat_lt A N) (Ok tt) (Err (SettingRefused A))
