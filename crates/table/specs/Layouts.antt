-- What a layout holds. Assumes nothing.
use Rattle.std.specs.Prelude.{◌≡◌, ℕ, ◌+◌, ◌<◌, ◌≤◌, List, length, Some, IfSome, nat_lt, slice_index}
use Rattle.std.specs.Bool.{then_some}
use Rattle.theory.specs.Grammar.{Cfg}
use Rattle.theory.specs.Count.{right_of}
use Rattle.grammar.specs.Symbols.{symbol_at}
use Rattle.grammar.specs.declared.Symbol.{Symbol}
use Rattle.grammar.specs.declared.Symbol.TheVariants as value
use Rattle.table.specs.Rows.{first_row, rows, RowOf, row_number, Room}
use Rattle.table.specs.Equations.{equation}
use Rattle.table.specs.Terms.{symbol_sum}
use Rattle.table.specs.declared.Row.{Row}
use Rattle.table.specs.declared.Row.TheVariants.{Nonterminal, Suffix}
use Rattle.table.specs.declared.sums.Terms.{Terms}
use Rattle.table.specs.declared.sums.Terms.TheVariants.{Slots, Split}
use Rattle.table.specs.declared.layout.Layout.{Layout}

-- the layout of the table of G for the bound L
pub record Laid (G : Cfg) (L : ℕ) (layout : Layout) : Type 0 where
  pub bound : layout.bound ≡ L
  pub rows : layout.rows ≡ rows G
  pub offsets : (s : ℕ) → s < G.slots → slice_index layout.offsets s ≡ first_row G s

-- a number that is no slot has the offset 0
abbrev pub NoOffsetsPast : Cfg → Layout → Type 0
NoOffsetsPast G layout = (s : ℕ) → G.slots ≤ s → slice_index layout.offsets s ≡ 0

-- the layout and the cells are those of a table of G: the layout is G's, and there are cells enough for it
pub record Ready (G : Cfg) (layout : Layout) (cells : List ℕ) : Type 0 where
  pub laid : Laid G layout.bound layout
  pub room : Room G layout.bound cells

-- ρ is row r of G
pub record AtRow (G : Cfg) (ρ : Row) (r : ℕ) : Type 0 where
  pub is_row : RowOf G ρ
  pub is : r ≡ row_number G ρ

-- what is read of row r before its cells are looked at: for a nonterminal that it is one; for a suffix its first symbol, and the row of the rest behind it,
-- which is the next, or none where that symbol is the last
abbrev pub ReadOf : Cfg → Row → ℕ → Terms → Type 0
ReadOf G (Nonterminal A) r (Slots B) = A ≡ B
ReadOf G (Nonterminal A) r (Split X rest) = ⊥
ReadOf G (Suffix s p) r (Slots B) = ⊥
ReadOf G (Suffix s p) r (Split X rest) =
    (Some X ≡ symbol_at (right_of (G.slot s)) p) × (rest ≡ then_some (nat_lt (p + 1) (length (right_of (G.slot s)))) (r + 1))

-- what the equation of a row says of its cell at m, by what is read of it
abbrev pub read_sum : Cfg → ℕ → List ℕ → Terms → ℕ → ℕ
read_sum G L cells (Slots A) m = equation G L cells (Nonterminal A) m
read_sum G L cells (Split X rest) m = symbol_sum L cells X rest m

-- a nonterminal has a row of the table
abbrev pub SymbolRow : Cfg → Symbol → Type 0
SymbolRow G (value.Terminal t) = Unit {0}
SymbolRow G (value.Nonterminal A) = A < rows G

-- the rows that the terms speak of are rows of the table
abbrev pub TermsRow : Cfg → Terms → Type 0
TermsRow G (Slots A) = Unit {0}
TermsRow G (Split X rest) = SymbolRow G X × IfSome rest (λ r. r < rows G)
