-- The laws of tables, as the contracts cite them.
use Rattle.std.specs.Prelude.{◌≡◌, ℕ, ◌-◌, ◌<◌, ◌≤◌, ◌↔◌, List}
use Rattle.fault.specs.declared.Fault.{Fault}
use Rattle.theory.specs.Grammar.{Cfg}
use Rattle.theory.specs.Sound.{Ll1}
use Rattle.table.specs.Rows.{RowOf, row_number, needed, place, Room}
use Rattle.table.specs.Equations.{AllObey}
use Rattle.table.specs.Counts.{SoundTable, CountsFit, FirstPasses}
use Rattle.table.specs.Calls.{CountRefused}
use Rattle.table.specs.declared.Row.{Row}

-- a table that satisfies all equations is the table of counts, and only that one does
abbrev pub EquationsHaveOneSolution : Type 0
EquationsHaveOneSolution = (G : Cfg) (level : ℕ → ℕ) → Ll1 G level → (L : ℕ) (cells : List ℕ) → AllObey G L cells ↔ SoundTable G L cells

-- the needed cells are the cells of the rows: each is the cell of a row at a length, of only one row and one length, and no other cell is
pub record CellsOfRows (G : Cfg) (L : ℕ) : Type 0 where
  pub each : (i : ℕ) → i < needed G L → (ρ : Row) × (m : ℕ) × RowOf G ρ × (m ≤ L) × (i ≡ place L (row_number G ρ) m)
  pub only : (ρ : Row) (m : ℕ) → RowOf G ρ → m ≤ L → place L (row_number G ρ) m < needed G L
  pub one : (ρ σ : Row) (m n : ℕ) → RowOf G ρ → RowOf G σ → m ≤ L → n ≤ L → place L (row_number G ρ) m ≡ place L (row_number G σ) n → (ρ ≡ σ) × (m ≡ n)

abbrev pub NeededCellsAreThoseOfTheRows : Type 0
NeededCellsAreThoseOfTheRows = (G : Cfg) (L : ℕ) → CellsOfRows G L

-- how counting for m - 1 ends, one less than a length m
pub record SucceedsBelow (G : Cfg) (m : ℕ) : Type 0 where
  -- there is such a bound
  pub positive : 0 < m
  -- no count of a length up to it passes 2^63 - 1
  pub fits : CountsFit G (m - 1)
  -- where there is room for it, no fault refuses the count
  pub not_refused : (before after : List ℕ) (f : Fault) → Room G (m - 1) before → CountRefused G (m - 1) before after f → ⊥

-- where a count passes 2^63 - 1 first at m, counting for m - 1 succeeds
abbrev pub CountsFitBelowFailure : Type 0
CountsFitBelowFailure = (G : Cfg) (level : ℕ → ℕ) → Ll1 G level → (L m : ℕ) → FirstPasses G L m → SucceedsBelow G m
