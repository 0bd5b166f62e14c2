-- The needed cells are the cells of the rows.
use Rattle.std.proofs.Common.{ℕ, zero, suc, ◌+◌, ◌-◌, ◌*◌, ◌/◌, ◌%◌, ◌<◌, ◌≤◌, refl, ap, ⊎_elim, le_refl, add-one, arith}
use Rattle.std.proofs.lemmas.Bool.{cases_lt}
use Rattle.std.proofs.lemmas.Nat.{div_below, mod_below, div-add-mod'}
use Rattle.theory.specs.Grammar.{Cfg}
use Rattle.table.specs.Rows.{first_row, rows, row_number}
use Rattle.table.specs.Layouts.{AtRow}
use Rattle.table.specs.Laws.{NeededCellsAreThoseOfTheRows}
use Rattle.table.specs.declared.Row.{Row}
use Rattle.table.specs.declared.Row.TheVariants.{Nonterminal, Suffix}
use Rattle.table.proofs.Rows.{first_row_none, first_row_more, cell_below, same_row, same_place}

-- each row is a nonterminal's or a suffix's
row_at : (G : Cfg) (n r : ℕ) → n ≤ G.slots → r < first_row G n → (ρ : Row) × AtRow G ρ r
row_at G zero r l h = (Nonterminal r, record { is_row = omega (arith, first_row_none G); is = refl })
row_at G (suc s) r l h =
    ⊎_elim
    (λ o. row_at G s r (omega arith) o)
    (λ o. (Suffix s (r - first_row G s), record { is_row = (omega arith, omega (arith, first_row_more G s, ap (first_row G) (add-one s))); is = omega arith }))
    (cases_lt r (first_row G s))

pub cells_of_rows : NeededCellsAreThoseOfTheRows
cells_of_rows G L = record {
  each = λ i h.
      let pos : 0 < L + 1 = omega arith in
      let low = div_below i (L + 1) (rows G) pos h in
      let at = row_at G G.slots (i / (L + 1)) (le_refl _) low in
      (at.0, i % (L + 1), at.1.is_row, omega (arith, mod_below i (L + 1) pos), omega (arith, div-add-mod' i (L + 1), ap (λ (x : ℕ). x * (L + 1)) at.1.is));
  only = λ ρ m h l. cell_below G L ρ m h l;
  one = λ ρ σ m n h k l o e.
      let i = same_place L (row_number G ρ) (row_number G σ) m n l o e in
      (same_row G ρ σ h k i.0, i.1);
}
