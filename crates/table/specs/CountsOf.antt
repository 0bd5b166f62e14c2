-- What the counts of a checked table are and say. Assumes nothing.
use Rattle.std.specs.Prelude.{◌≡◌, ℕ, ◌<◌, ◌≤◌, List, slice_index}
use Rattle.theory.specs.Grammar.{Cfg}
use Rattle.table.specs.Rows as table
use Rattle.table.specs.Reading.{numbered_row, row_cells}
use Rattle.table.specs.declared.Row.{Row}
use Rattle.table.specs.declared.counts.Counts.{Counts}

-- the cells that counts have for a row
abbrev pub counted_row : Counts → Row → List ℕ
counted_row counts ρ = row_cells counts.layout.bound counts.cells.now (numbered_row counts.layout.offsets ρ)

-- the counts are those of the table of G for L in these cells; a number that is no slot has no rows, and the offset 0
pub record CountsOf (G : Cfg) (L : ℕ) (cells : List ℕ) (counts : Counts) : Type 0 where
  pub read : counts.cells.now ≡ cells
  pub bound : counts.layout.bound ≡ L
  pub rows : counts.layout.rows ≡ table.rows G
  pub offsets : (s : ℕ) → s < G.slots → slice_index counts.layout.offsets s ≡ table.first_row G s
  pub no_offsets : (s : ℕ) → G.slots ≤ s → slice_index counts.layout.offsets s ≡ 0
