-- The terms of a suffix's sum, by its first symbol and the row of the rest behind it. Assumes nothing.
use Rattle.std.specs.Prelude.{ℕ, ◌+◌, List, Some, None, Option, slice_index}
use Rattle.theory.specs.Count.{one_at, sum_splits}
use Rattle.grammar.specs.declared.Symbol.{Symbol}
use Rattle.grammar.specs.declared.Symbol.TheVariants.{Terminal, Nonterminal}
use Rattle.table.specs.Rows.{cell_at}

-- the cells from i on
abbrev pub from_cell : List ℕ → ℕ → ℕ → ℕ
from_cell cells i j = slice_index cells (i + j)

-- the count at j of a symbol
abbrev pub symbol_cell : ℕ → List ℕ → Symbol → ℕ → ℕ
symbol_cell L cells (Terminal t) j = one_at 1 j
symbol_cell L cells (Nonterminal A) j = cell_at L cells A j

-- the count at k of a rest: the empty one has no row
abbrev pub rest_cell : ℕ → List ℕ → Option ℕ → ℕ → ℕ
rest_cell L cells None k = one_at 0 k
rest_cell L cells (Some r) k = cell_at L cells r k

-- the sum over the splits of m between that symbol and that rest
abbrev pub symbol_sum : ℕ → List ℕ → Symbol → Option ℕ → ℕ → ℕ
symbol_sum L cells X rest m = sum_splits (symbol_cell L cells X) (rest_cell L cells rest) m
