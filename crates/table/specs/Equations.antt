-- The two counting equations over any cell contents, and the lowest cell that breaks its equation. Assumes nothing.
use Rattle.std.specs.Prelude.{◌≡◌, ℕ, ◌+◌, ◌^◌, ◌<◌, ◌≤◌, List, [], ◌∷◌, drop}
use Rattle.theory.specs.Grammar.{Symbol, Cfg}
use Rattle.theory.specs.Count.{right_of, sum_slots, one_at, sum_splits, symbol_count}
use Rattle.table.specs.Rows.{first_row, RowOf, row_number, place, cell_at}
use Rattle.table.specs.declared.Row.{Row}
use Rattle.table.specs.declared.Row.TheVariants.{Nonterminal, Suffix}

-- what the cells say of a suffix at m: the empty one counts 1 at 0, else 0; any other has a row r
abbrev pub suffix_cell : ℕ → List ℕ → List Symbol → ℕ → ℕ → ℕ
suffix_cell L cells [] r m = one_at 0 m
suffix_cell L cells (X ∷ Xs) r m = cell_at L cells r m

-- what the equation of the suffix of row r says of it at m: the sum over the splits of m between its first symbol and the rest, which has the next row
abbrev pub suffix_sum : ℕ → List ℕ → List Symbol → ℕ → ℕ → ℕ
suffix_sum L cells [] r m = 0
suffix_sum L cells (X ∷ Xs) r m = sum_splits (symbol_count (cell_at L cells) X) (suffix_cell L cells Xs (r + 1)) m

-- what the equation of a row says of its cell at m
abbrev pub equation : Cfg → ℕ → List ℕ → Row → ℕ → ℕ
equation G L cells (Nonterminal A) m = sum_slots G A (λ s. suffix_cell L cells (right_of (G.slot s)) (first_row G s) m) G.slots
equation G L cells (Suffix s p) m = suffix_sum L cells (drop p (right_of (G.slot s))) (first_row G s + p) m

-- the cell of a row at m obeys its equation and does not pass 2^63 - 1
pub record Obeys (G : Cfg) (L : ℕ) (cells : List ℕ) (ρ : Row) (m : ℕ) : Type 0 where
  pub equal : cell_at L cells (row_number G ρ) m ≡ equation G L cells ρ m
  pub small : cell_at L cells (row_number G ρ) m < 2 ^ 63

-- every needed cell obeys its equation
abbrev pub AllObey : Cfg → ℕ → List ℕ → Type 0
AllObey G L cells = (ρ : Row) (m : ℕ) → RowOf G ρ → m ≤ L → Obeys G L cells ρ m

-- every needed cell below i does
abbrev pub ObeyBelow : Cfg → ℕ → List ℕ → ℕ → Type 0
ObeyBelow G L cells i = (ρ : Row) (m : ℕ) → RowOf G ρ → m ≤ L → place L (row_number G ρ) m < i → Obeys G L cells ρ m

-- i is the lowest needed cell that breaks its equation
pub record LowestBroken (G : Cfg) (L : ℕ) (cells : List ℕ) (i : ℕ) : Type 0 where
  pub row : Row
  pub at : ℕ
  pub is_row : RowOf G row
  pub short : at ≤ L
  pub here : i ≡ place L (row_number G row) at
  pub broken : Obeys G L cells row at → ⊥
  pub below : ObeyBelow G L cells i
