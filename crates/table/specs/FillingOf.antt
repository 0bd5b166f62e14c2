-- A table in the making, by what fills it. Assumes nothing.
use Rattle.std.specs.Prelude.{◌≡◌, ℕ, List, Result}
use Rattle.theory.specs.Grammar.{Symbol, Cfg}
use Rattle.grammar.specs.declared.Grammar.{Ghosts}
use Rattle.table.specs.Filling.{Correct, Keeps, UnlessOver, FirstsCorrect, CornersCorrect, PrefixCorrectOf, Done, AllDone}
use Rattle.table.specs.declared.Row.{Row}
use Rattle.table.specs.declared.filling.TooLarge.{TooLarge}
use Rattle.table.specs.declared.filling.Filling.{Filling}
use Rattle.table.specs.declared.cells.Cells.{Cells}

-- the grammar whose table is filled
abbrev pub grammar_of : {T : Type 0} {members : Ghosts T} → Filling T members → Cfg
grammar_of {members = members} x = members.meaning x.grammar.now

-- the bound of the table
abbrev pub bound_of : {T : Type 0} {members : Ghosts T} → Filling T members → ℕ
bound_of x = x.layout.now.bound

-- the cell of ρ for the length that is filled holds its count
abbrev pub Right : {T : Type 0} {members : Ghosts T} → Filling T members → Row → Type 0
Right x ρ = Correct (grammar_of x) (bound_of x) x.cells.now ρ x.length

-- the nonterminals that stand in Ys before p are right at that length
abbrev pub FirstsRight : {T : Type 0} {members : Ghosts T} → Filling T members → List Symbol → ℕ → Type 0
FirstsRight x Ys p = FirstsCorrect (grammar_of x) (bound_of x) x.cells.now Ys p x.length

-- the left corners of A are
abbrev pub CornersRight : {T : Type 0} {members : Ghosts T} → Filling T members → ℕ → Type 0
CornersRight x A = CornersCorrect (grammar_of x) (bound_of x) x.cells.now A x.length

-- the suffixes of slot s behind what is nullable are, if it is one of A's
abbrev pub PrefixRight : {T : Type 0} {members : Ghosts T} → Filling T members → ℕ → ℕ → Type 0
PrefixRight x A s = PrefixCorrectOf (grammar_of x) (bound_of x) x.cells.now A x.length s

-- A is, and so are the suffixes of its slots that it needs at that length
abbrev pub DoneRight : {T : Type 0} {members : Ghosts T} → Filling T members → ℕ → Type 0
DoneRight x A = Done (grammar_of x) (bound_of x) x.cells.now x.length A

-- every nonterminal is
abbrev pub AllDoneRight : {T : Type 0} {members : Ghosts T} → Filling T members → Type 0
AllDoneRight x = AllDone (grammar_of x) (bound_of x) x.cells.now x.length

-- P where all is well, else a count at that length passes the limit
abbrev pub UnlessTooLarge : {R T : Type 0} {members : Ghosts T} → Result R TooLarge → Filling T members → Type 0 → Type 0
UnlessTooLarge r x P = UnlessOver r (grammar_of x) x.length P

-- what was right before still is, the cells that the table does not need are unchanged, and so is all else
pub record Stays {T : Type 0} {members : Ghosts T} (before after : Filling T members) : Type 0 where
  pub grammar : after.grammar.now ≡ before.grammar.now
  pub layout : after.layout.now ≡ before.layout.now
  pub lent : after.cells.ghost_name ≡ before.cells.ghost_name
  pub length : after.length ≡ before.length
  pub keeps : Keeps (grammar_of before) (bound_of before) before.cells.now after.cells.now

-- the cells that are filled, to be read
pub record Shows {T : Type 0} {members : Ghosts T} (x : Filling T members) (y : Cells T members) : Type 0 where
  pub grammar : y.grammar.now ≡ x.grammar.now
  pub layout : y.layout.now ≡ x.layout.now
  pub cells : y.cells.now ≡ x.cells.now
