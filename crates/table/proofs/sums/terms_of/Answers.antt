use Rattle.std.proofs.Common.{IsSome, sym, subst, arith}
use Rattle.table.specs.Rows.{RowOf}
use Rattle.table.specs.declared.Row.{Row}
use Rattle.table.proofs.Shown.{is_shown}
use Rattle.table.proofs.Rows.{row_small}
use Rattle.table.proofs.sums.terms_of.Goals as goal

pub unwrap-symbol-requires : goal.unwrap-symbol-requires
unwrap-symbol-requires g c =
    let h = subst (λ (ρ : Row). RowOf (g.G.Grammar.meaning c.args.g.now) ρ) c.in-Suffix.is c.requires.is_row in
    subst (λ o. IsSome o) (sym c.symbol_at.ensures) (is_shown _ c.in-Suffix.position h.1)

pub overflow_add-at : goal.overflow_add-at
overflow_add-at g c =
    let f = g.met.G.Grammar.implements c.args.g.now in
    omega (arith, row_small f.limits c.requires)
