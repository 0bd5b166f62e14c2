-- What is read of the counts of a table that has been checked. Assumes nothing.
use Rattle.std.specs.Prelude.{◌≡◌, ℕ, ◌+◌, ◌*◌, ◌<◌, ◌≤◌, List, [], ◌∷◌, take, drop, slice_index}
use Rattle.theory.specs.Grammar.{Symbol, Cfg}
use Rattle.theory.specs.Count.{one_at}
use Rattle.table.specs.Rows.{first_row, RowOf, Room}
use Rattle.table.specs.Filling.{Correct}
use Rattle.table.specs.declared.Row.{Row}
use Rattle.table.specs.declared.Row.TheVariants.{Nonterminal, Suffix}

-- which row counts a nonterminal or a suffix, where the first suffixes of the slots have these rows
abbrev pub numbered_row : List ℕ → Row → ℕ
numbered_row offsets (Nonterminal A) = A
numbered_row offsets (Suffix s p) = slice_index offsets s + p

-- the cells of row r in a table for the lengths 0 to L
abbrev pub row_cells : ℕ → List ℕ → ℕ → List ℕ
row_cells L cells r = take (L + 1) (drop (r * (L + 1)) cells)

-- how many ways a right-hand side has at m, where these are the cells of its row: the empty one has no row, and has 1 way at 0, else 0
abbrev pub side_ways : List Symbol → List ℕ → ℕ → ℕ
side_ways [] row m = one_at 0 m
side_ways (X ∷ Xs) row m = slice_index row m

-- the cells hold the counts of G for the lengths 0 to L, and the slots have these first rows
pub record SoundCells (G : Cfg) (L : ℕ) (cells firsts : List ℕ) : Type 0 where
  pub room : Room G L cells
  pub offsets : (s : ℕ) → s < G.slots → slice_index firsts s ≡ first_row G s
  pub right : (ρ : Row) (m : ℕ) → RowOf G ρ → m ≤ L → Correct G L cells ρ m
