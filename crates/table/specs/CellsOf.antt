-- What the cells of a table say, as they are read. Assumes nothing.
use Rattle.std.specs.Prelude.{ℕ}
use Rattle.theory.specs.Grammar.{Cfg}
use Rattle.grammar.specs.declared.Grammar.{Ghosts}
use Rattle.table.specs.Equations.{ObeyBelow, LowestBroken}
use Rattle.table.specs.declared.cells.Cells.{Cells}
use Rattle.table.specs.declared.checking.BrokenCell.{BrokenCell}

-- the grammar whose table it is
abbrev pub grammar_of : {T : Type 0} {members : Ghosts T} → Cells T members → Cfg
grammar_of {members = members} cells = members.meaning cells.grammar.now

-- the bound of the table
abbrev pub bound_of : {T : Type 0} {members : Ghosts T} → Cells T members → ℕ
bound_of cells = cells.layout.now.bound

-- every needed cell below i obeys its equation
abbrev pub ObeyTo : {T : Type 0} {members : Ghosts T} → Cells T members → ℕ → Type 0
ObeyTo cells i = ObeyBelow (grammar_of cells) (bound_of cells) cells.cells.now i

-- the cell that is named is the lowest needed one that breaks its equation
abbrev pub Names : {T : Type 0} {members : Ghosts T} → Cells T members → BrokenCell → Type 0
Names cells e = LowestBroken (grammar_of cells) (bound_of cells) cells.cells.now e.0
