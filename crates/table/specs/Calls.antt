-- What the calls on a table answer, and what they leave in the cells. Assumes nothing.
use Rattle.std.specs.Prelude.{◌≡◌, ℕ, ◌+◌, ◌^◌, ◌<◌, ◌≤◌, Bool, true, false, List, length, is_ok, Decides, Result, MatchResult, slice_index}
use Rattle.fault.specs.declared.Fault.{Fault}
use Rattle.fault.specs.declared.Fault.TheVariants.{TooLong, ShortMemory, CountTooLarge, BrokenCell}
use Rattle.fault.specs.declared.Memory.TheVariants.{Cells}
use Rattle.theory.specs.Grammar.{Cfg}
use Rattle.table.specs.Rows.{RowOf, needed, Room}
use Rattle.table.specs.Layouts.{Laid}
use Rattle.table.specs.declared.layout.Layout.{Layout}
use Rattle.table.specs.Equations.{LowestBroken}
use Rattle.table.specs.Counts.{SoundTable, CountsFit, FirstPasses, count_of}
use Rattle.table.specs.Filling.{CorrectBelow, Over}
use Rattle.table.specs.declared.Row.{Row}

-- the cells from n on are unchanged
abbrev pub SamePast : ℕ → List ℕ → List ℕ → Type 0
SamePast n before after = (length after ≡ length before) × ((k : ℕ) → n ≤ k → slice_index after k ≡ slice_index before k)

-- the first n cells are 0, and the others are unchanged
abbrev pub Zeroed : ℕ → List ℕ → List ℕ → Type 0
Zeroed n before after = ((k : ℕ) → k < n → slice_index after k ≡ 0) × SamePast n before after

-- what a guard leaves: all cells unchanged once accepted, else 0 in the first n
abbrev pub Released : Bool → ℕ → List ℕ → List ℕ → Type 0
Released true n before after = after ≡ before
Released false n before after = Zeroed n before after

-- why a table of n cells for the bound L cannot be worked with: L is above 48, or there are too few cells. No other fault
pub data NoRoom (G : Cfg) (L n : ℕ) : Fault → Type 0 where
  too_long : 48 < L → NoRoom G L n (TooLong L)
  short_cells : L ≤ 48 → n < needed G L → NoRoom G L n (ShortMemory Cells)

-- the needed cells hold their counts, and the others are unchanged
pub record Filled (G : Cfg) (L : ℕ) (before after : List ℕ) : Type 0 where
  pub right : CorrectBelow G L after (L + 1)
  pub rest : SamePast (needed G L) before after

-- a count passes the limit first at m, and the needed cells are 0
pub record Stopped (G : Cfg) (L : ℕ) (before after : List ℕ) (m : ℕ) : Type 0 where
  pub short : m ≤ L
  pub over : Over G m
  pub before_fits : (ρ : Row) (k : ℕ) → RowOf G ρ → k < m → count_of G ρ k < 2 ^ 63
  pub zeroed : Zeroed (needed G L) before after

-- the layout of a table that has room
pub record HasRoom (G : Cfg) (L n : ℕ) (layout : Layout) : Type 0 where
  pub small : L ≤ 48
  pub enough : needed G L ≤ n
  pub laid : Laid G L layout

-- what is answered of the cells that a table needs
pub record NeededAnswer (G : Cfg) (L : ℕ) (cells : List ℕ) (r : Result ℕ Fault) : Type 0 where
  -- there is room, and so many are needed; or why there is no room
  pub answer : MatchResult r (λ n. Room G L cells × (n ≡ needed G L)) (NoRoom G L (length cells))
  -- Ok is answered exactly where there is room
  pub exactly : Decides (is_ok r) (Room G L cells)

-- how counting ends well: each needed cell is the count that it stands for, and all others are unchanged
pub record Counted (G : Cfg) (L : ℕ) (before after : List ℕ) : Type 0 where
  pub room : Room G L before
  pub sound : SoundTable G L after
  pub rest : SamePast (needed G L) before after

-- how counting is refused: there is no room, and all cells are unchanged; or a count passes 2^63 - 1, and the needed cells are 0. No other fault
pub data CountRefused (G : Cfg) (L : ℕ) (before after : List ℕ) : Fault → Type 0 where
  no_room : {f : Fault} → NoRoom G L (length before) f → after ≡ before → CountRefused G L before after f
  too_large : (m : ℕ) → Room G L before → FirstPasses G L m → Zeroed (needed G L) before after → CountRefused G L before after (CountTooLarge m)

-- what counting answers, and what it leaves
pub record CountAnswer {T : Type 0} (G : Cfg) (L : ℕ) (before after : List ℕ) (r : Result T Fault) : Type 0 where
  -- the table is counted, or the count is refused
  pub answer : MatchResult r (λ _. Counted G L before after) (CountRefused G L before after)
  -- Ok is answered exactly where there is room and no count passes 2^63 - 1
  pub exactly : Decides (is_ok r) (Room G L before × CountsFit G L)

-- how the check refuses a table: there is no room, or a needed cell breaks its equation, and the lowest such is named. No other fault
pub data CheckRefused (G : Cfg) (L : ℕ) (cells : List ℕ) : Fault → Type 0 where
  no_room : {f : Fault} → NoRoom G L (length cells) f → CheckRefused G L cells f
  broken : (i : ℕ) → Room G L cells → LowestBroken G L cells i → CheckRefused G L cells (BrokenCell i)

-- what the check answers
pub record CheckAnswer {T : Type 0} (G : Cfg) (L : ℕ) (cells : List ℕ) (r : Result T Fault) : Type 0 where
  -- there is room and the table is sound, or why it is refused
  pub answer : MatchResult r (λ _. Room G L cells × SoundTable G L cells) (CheckRefused G L cells)
  -- Ok is answered exactly where there is room and the table is sound
  pub exactly : Decides (is_ok r) (Room G L cells × SoundTable G L cells)
