-- The rows of a table and where their cells stand. Assumes nothing.
use Rattle.std.specs.Prelude.{ℕ, zero, suc, ◌+◌, ◌*◌, ◌<◌, ◌≤◌, List, length, slice_index}
use Rattle.theory.specs.Grammar.{Cfg}
use Rattle.theory.specs.Count.{right_of}
use Rattle.table.specs.declared.Row.{Row}
use Rattle.table.specs.declared.Row.TheVariants.{Nonterminal, Suffix}

-- the row of the first suffix of slot s: the nonterminals come first, then the suffixes of the slots before, none for the empty suffix
unfoldable pub first_row : Cfg → ℕ → ℕ
first_row G zero = G.nonterminals
first_row G (suc s) = first_row G s + length (right_of (G.slot s))

-- how many rows there are: the nonterminals, and the symbols of all right-hand sides
abbrev pub rows : Cfg → ℕ
rows G = first_row G G.slots

-- a row that the table of G has
abbrev pub RowOf : Cfg → Row → Type 0
RowOf G (Nonterminal A) = A < G.nonterminals
RowOf G (Suffix s p) = (s < G.slots) × (p < length (right_of (G.slot s)))

-- which row it is
abbrev pub row_number : Cfg → Row → ℕ
row_number G (Nonterminal A) = A
row_number G (Suffix s p) = first_row G s + p

-- how many cells a table for the lengths 0 to L needs
abbrev pub needed : Cfg → ℕ → ℕ
needed G L = rows G * (L + 1)

-- the cell of row r for length m, in a table for the lengths 0 to L
abbrev pub place : ℕ → ℕ → ℕ → ℕ
place L r m = r * (L + 1) + m

-- what that cell holds
abbrev pub cell_at : ℕ → List ℕ → ℕ → ℕ → ℕ
cell_at L cells r m = slice_index cells (place L r m)

-- the bound is at most 48, and there are enough cells for it
pub record Room (G : Cfg) (L : ℕ) (cells : List ℕ) : Type 0 where
  pub small : L ≤ 48
  pub enough : needed G L ≤ length cells
