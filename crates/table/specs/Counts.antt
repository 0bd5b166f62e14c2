-- What the cells of a table stand for, and when a table is sound. Assumes nothing.
use Rattle.std.specs.Prelude.{ℕ, ◌^◌, ◌<◌, ◌≤◌, List, drop}
use Rattle.theory.specs.Grammar.{Cfg}
use Rattle.theory.specs.Count.{Count, Ways, right_of, side_count, count}
use Rattle.table.specs.Rows.{RowOf, row_number, cell_at}
use Rattle.table.specs.declared.Row.{Row}
use Rattle.table.specs.declared.Row.TheVariants.{Nonterminal, Suffix}

-- k is the count that a row's cell at m stands for: how many sentences the nonterminal has, or how many ways there are to take the suffix
abbrev pub StandsFor : Cfg → Row → ℕ → ℕ → Type 0
StandsFor G (Nonterminal A) m k = Count G A m k
StandsFor G (Suffix s p) m k = Ways G (drop p (right_of (G.slot s))) m k

-- the cell of ρ at m is the count that it stands for, and does not pass 2^63 - 1
pub record SoundCell (G : Cfg) (L : ℕ) (cells : List ℕ) (ρ : Row) (m : ℕ) : Type 0 where
  pub counts : StandsFor G ρ m (cell_at L cells (row_number G ρ) m)
  pub small : cell_at L cells (row_number G ρ) m < 2 ^ 63

-- a table is sound if each needed cell is the count that it stands for, and none passes 2^63 - 1
abbrev pub SoundTable : Cfg → ℕ → List ℕ → Type 0
SoundTable G L cells = (ρ : Row) (m : ℕ) → RowOf G ρ → m ≤ L → SoundCell G L cells ρ m

-- some count of length m, of a nonterminal or a suffix, passes 2^63 - 1
pub record Passes (G : Cfg) (m : ℕ) : Type 0 where
  pub row : Row
  pub is_row : RowOf G row
  pub value : ℕ
  pub counts : StandsFor G row m value
  pub large : 2 ^ 63 ≤ value

-- no count of a length up to L does
abbrev pub CountsFit : Cfg → ℕ → Type 0
CountsFit G L = (m : ℕ) → m ≤ L → Passes G m → ⊥

-- m is the smallest length at which some count passes 2^63 - 1
pub record FirstPasses (G : Cfg) (L m : ℕ) : Type 0 where
  pub short : m ≤ L
  pub passes : Passes G m
  pub first : (k : ℕ) → k < m → Passes G k → ⊥

-- the count that a row stands for, computed
abbrev pub count_of : Cfg → Row → ℕ → ℕ
count_of G (Nonterminal A) m = count G A m
count_of G (Suffix s p) m = side_count (count G) (drop p (right_of (G.slot s))) m
