use Rattle.std.proofs.Common.{◌≡◌, ℕ, ◌<◌, ◌≤◌, length, get_or}
use Rattle.table.specs.Rows.{first_row}
use Rattle.table.proofs.layout.lay_out.Given as goal

abbrev pub invariant-loop-s : goal.invariant-loop-s
invariant-loop-s g l =
    let G = g.G.Grammar.meaning l.g in
    (l.rows ≡ first_row G l.s) × (length l.offsets ≡ 64) × ((q : ℕ) → q < l.s → get_or l.offsets q 0 ≡ first_row G q) × ((q : ℕ) → l.s ≤ q → get_or l.offsets q 0 ≡ 0)
