-- A table in the making: which cells hold their count already. Assumes nothing.
use Rattle.std.specs.Prelude.{◌≡◌, ℕ, ◌^◌, ◌<◌, ◌≤◌, ◌⊎◌, List, [], ◌∷◌, length, take, drop, Some, None, Ok, Err, Option, Result, slice_index}
use Rattle.theory.specs.Grammar.{Symbol, nonterminal, Cfg}
use Rattle.theory.specs.Sets.{Nullable, LeftCorner}
use Rattle.theory.specs.Count.{left_of, right_of, symbol_count, count}
use Rattle.table.specs.Rows.{RowOf, row_number, needed, cell_at}
use Rattle.table.specs.Counts.{count_of}
use Rattle.table.specs.Layouts.{Ready}
use Rattle.table.specs.declared.layout.Layout.{Layout}
use Rattle.table.specs.declared.filling.TooLarge.{TooLarge}
use Rattle.table.specs.declared.Row.{Row}
use Rattle.table.specs.declared.Row.TheVariants.{Nonterminal, Suffix}

-- what a sum of n is answered by: n itself below 2^63, and none from there on
abbrev pub Within : ℕ → Option ℕ → Type 0
Within n (Some s) = (s ≡ n) × (n < 2 ^ 63)
Within n None = 2 ^ 63 ≤ n

-- the cell of ρ at m holds its count
pub record Correct (G : Cfg) (L : ℕ) (cells : List ℕ) (ρ : Row) (m : ℕ) : Type 0 where
  pub is : cell_at L cells (row_number G ρ) m ≡ count_of G ρ m
  pub low : count_of G ρ m < 2 ^ 63

-- all rows are right below m
abbrev pub CorrectBelow : Cfg → ℕ → List ℕ → ℕ → Type 0
CorrectBelow G L cells m = (ρ : Row) (k : ℕ) → RowOf G ρ → k < m → Correct G L cells ρ k

-- the cells are ready to be filled for the length m: the table is, m is one of its lengths, and all rows are right below m
pub record ReadyAt (G : Cfg) (layout : Layout) (cells : List ℕ) (m : ℕ) : Type 0 where
  pub table : Ready G layout cells
  pub short : m ≤ layout.bound
  pub below : CorrectBelow G layout.bound cells m

-- what was right before still is, and the cells that the table does not need are unchanged
pub record Keeps (G : Cfg) (L : ℕ) (before after : List ℕ) : Type 0 where
  pub long : length after ≡ length before
  pub still : (ρ : Row) (m : ℕ) → RowOf G ρ → m ≤ L → Correct G L before ρ m → Correct G L after ρ m
  pub past : (k : ℕ) → needed G L ≤ k → slice_index after k ≡ slice_index before k

-- the count of some row at m passes the limit
pub record Over (G : Cfg) (m : ℕ) : Type 0 where
  pub row : Row
  pub is_row : RowOf G row
  pub over : 2 ^ 63 ≤ count_of G row m

-- P where all is well, else a count at m passes the limit
abbrev pub UnlessOver : {T : Type 0} → Result T TooLarge → Cfg → ℕ → Type 0 → Type 0
UnlessOver (Ok _) G m P = P
UnlessOver (Err e) G m P = Over G m × (e.length ≡ m)

-- the nonterminals that stand in Ys before p are right at m
abbrev pub FirstsCorrect : Cfg → ℕ → List ℕ → List Symbol → ℕ → ℕ → Type 0
FirstsCorrect G L cells Ys p m = (q B : ℕ) (Xs : List Symbol) → q < p → drop q Ys ≡ nonterminal B ∷ Xs → Correct G L cells (Nonterminal B) m

-- the suffix from p on does not need the rest behind its first symbol at its own length: there is none, or the symbol is not nullable
abbrev pub NeedsNoRest : Cfg → List Symbol → ℕ → Type 0
NeedsNoRest G Ys p = (X : Symbol) (Xs : List Symbol) → drop p Ys ≡ X ∷ Xs → (Xs ≡ []) ⊎ (symbol_count (count G) X 0 ≡ 0)

-- the left corners of A are right at m
abbrev pub CornersCorrect : Cfg → ℕ → List ℕ → ℕ → ℕ → Type 0
CornersCorrect G L cells A m = (B : ℕ) → B < G.nonterminals → LeftCorner G A B → Correct G L cells (Nonterminal B) m

-- the nonterminals of Ys behind what is nullable are right at m
abbrev pub LeadingCorrect : Cfg → ℕ → List ℕ → List Symbol → ℕ → Type 0
LeadingCorrect G L cells Ys m = (p B : ℕ) (Xs : List Symbol) → Nullable G (take p Ys) → drop p Ys ≡ nonterminal B ∷ Xs → Correct G L cells (Nonterminal B) m

-- the suffixes of slot s behind what is nullable are right at m
abbrev pub PrefixCorrect : Cfg → ℕ → List ℕ → ℕ → ℕ → Type 0
PrefixCorrect G L cells m s = (p : ℕ) → p < length (right_of (G.slot s)) → Nullable G (take p (right_of (G.slot s))) → Correct G L cells (Suffix s p) m

-- so are those of slot s if it is one of A's
abbrev pub PrefixCorrectOf : Cfg → ℕ → List ℕ → ℕ → ℕ → ℕ → Type 0
PrefixCorrectOf G L cells A m s = left_of (G.slot s) ≡ Some A → PrefixCorrect G L cells m s

-- A is right at m, and so are the suffixes of its slots that it needs at that length
pub record Done (G : Cfg) (L : ℕ) (cells : List ℕ) (m A : ℕ) : Type 0 where
  pub count : Correct G L cells (Nonterminal A) m
  pub prefixes : (s : ℕ) → s < G.slots → PrefixCorrectOf G L cells A m s

-- every nonterminal is
abbrev pub AllDone : Cfg → ℕ → List ℕ → ℕ → Type 0
AllDone G L cells m = (A : ℕ) → A < G.nonterminals → Done G L cells m A
