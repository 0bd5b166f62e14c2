-- What counts with their grammar are and say. Assumes nothing.
use Rattle.std.specs.Prelude.{◌≡◌, ℕ, Ok, Err, Result}
use Rattle.fault.specs.declared.Fault.{Fault}
use Rattle.theory.specs.Grammar.{Cfg}
use Rattle.grammar.specs.declared.Grammar.{Ghosts}
use Rattle.table.specs.declared.cells.Cells.{Cells}
use Rattle.table.specs.declared.counts.Counts.{Counts}
use Rattle.table.specs.declared.grammar_counts.GrammarCounts.{GrammarCounts}

-- the grammar whose counts they are
abbrev pub grammar_of : {T : Type 0} {members : Ghosts T} → GrammarCounts T members → Cfg
grammar_of {members = members} counts = members.meaning counts.grammar.now

-- the greatest length that they have
abbrev pub bound_of : {T : Type 0} {members : Ghosts T} → GrammarCounts T members → ℕ
bound_of counts = counts.counts.layout.bound

-- an answer without the grammar
abbrev pub counts_in : {T : Type 0} {members : Ghosts T} → Result (GrammarCounts T members) Fault → Result Counts Fault
counts_in (Ok counts) = Ok counts.counts
counts_in (Err f) = Err f

-- the cells are those of the counts, with the same grammar and layout
pub record Shows {T : Type 0} {members : Ghosts T} (counts : GrammarCounts T members) (cells : Cells T members) : Type 0 where
  pub grammar : cells.grammar.now ≡ counts.grammar.now
  pub layout : cells.layout.now ≡ counts.counts.layout
  pub lent : cells.cells.now ≡ counts.counts.cells.now
