-- The cells of a row, as they are read.
use Rattle.std.proofs.Common.{◌≡◌, ℕ, ◌+◌, ◌*◌, ◌^◌, ◌<◌, ◌≤◌, List, [], ◌∷◌, length, get_or, drop, refl, ap, ◌∙◌, arith, length-drop}
use Rattle.std.proofs.lemmas.List.{length-take-le, get_or-take, get_or-drop}
use Rattle.std.proofs.lemmas.Nat.{mul-add-lt}
use Rattle.theory.specs.Grammar.{Symbol, Cfg}
use Rattle.theory.specs.Sound.{Ll1}
use Rattle.theory.specs.Count.{right_of, side_count, count}
use Rattle.table.specs.Rows.{first_row, rows, RowOf, row_number, Room, cell_at}
use Rattle.table.specs.Counts.{SoundTable, count_of}
use Rattle.table.specs.Reading.{numbered_row, row_cells, side_ways, SoundCells}
use Rattle.table.specs.declared.Row.{Row}
use Rattle.table.specs.declared.Row.TheVariants.{Nonterminal, Suffix}
use Rattle.table.proofs.Rows.{row_below}
use Rattle.table.proofs.Solution.{sound_right}

-- a row that ends within the cells has all its cells
row_cells_long : (L : ℕ) (cells : List ℕ) (r n : ℕ) → r < n → n * (L + 1) ≤ length cells → length (row_cells L cells r) ≡ L + 1
row_cells_long L cells r n l e =
    let d = length-drop (r * (L + 1)) cells in
    let p = mul-add-lt r (L + 1) L n l (omega arith) in
    length-take-le (L + 1) (drop (r * (L + 1)) cells) (omega arith)

-- the cell of a row at m
row_cells_at : (L : ℕ) (cells : List ℕ) (r m : ℕ) → m ≤ L → get_or (row_cells L cells r) m 0 ≡ cell_at L cells r m
row_cells_at L cells r m l = get_or-take (L + 1) (drop (r * (L + 1)) cells) m 0 (omega arith) ∙ get_or-drop (r * (L + 1)) cells m 0

-- a table that may be used holds the counts
pub sound_cells : {G : Cfg} {level : ℕ → ℕ} {L : ℕ} {cells firsts : List ℕ} → Ll1 G level → Room G L cells → SoundTable G L cells
    → ((s : ℕ) → s < G.slots → get_or firsts s 0 ≡ first_row G s) → SoundCells G L cells firsts
sound_cells ll r s o = record { room = r; offsets = o; right = λ ρ m h l. sound_right ll s ρ m h (omega (arith, l)) }

module _ {G : Cfg} {L : ℕ} {cells firsts : List ℕ} (s : SoundCells G L cells firsts) where
  -- the cells of a row
  abbrev pub row_read : Row → List ℕ
  row_read ρ = row_cells L cells (numbered_row firsts ρ)

  -- the rows stand where the layout has them
  row_is : (ρ : Row) → RowOf G ρ → numbered_row firsts ρ ≡ row_number G ρ
  row_is (Nonterminal A) h = refl
  row_is (Suffix q p) h = ap (λ (x : ℕ). x + p) (s.offsets q h.0)

  -- a row has a cell for each length up to the bound
  pub row_long : (ρ : Row) → RowOf G ρ → length (row_read ρ) ≡ L + 1
  row_long ρ h = row_cells_long L cells _ (rows G) (omega (arith, row_is ρ h, row_below G ρ h)) s.room.enough

  -- its cell at m is the count of that length
  pub row_count : (ρ : Row) (m : ℕ) → RowOf G ρ → m ≤ L → get_or (row_read ρ) m 0 ≡ count_of G ρ m
  row_count ρ m h l =
      row_cells_at L cells _ m l
      ∙ ap (λ (r : ℕ). cell_at L cells r m) (row_is ρ h)
      ∙ (s.right ρ m h l).is

  -- and does not pass the limit
  pub row_low : (ρ : Row) (m : ℕ) → RowOf G ρ → m ≤ L → count_of G ρ m < 2 ^ 63
  row_low ρ m h l = (s.right ρ m h l).low

  -- the ways of the right-hand side of a slot, as they are read
  pub ways_read : (q m : ℕ) → q < G.slots → m ≤ L → side_ways (right_of (G.slot q)) (row_read (Suffix q 0)) m ≡ side_count (count G) (right_of (G.slot q)) m
  unfolding side_count
  ways_read q m h l = go (right_of (G.slot q)) refl
    where
      go : (Ys : List Symbol) → right_of (G.slot q) ≡ Ys → side_ways Ys (row_read (Suffix q 0)) m ≡ side_count (count G) Ys m
      go [] e = refl
      go (X ∷ Xs) e =
          row_count (Suffix q 0) m (h, omega (arith, ap length e)) l ∙ ap (λ (Zs : List Symbol). side_count (count G) Zs m) e
