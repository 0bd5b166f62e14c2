use Rattle.std.proofs.Common.{ℕ, ◌<◌, below_more}
use Rattle.table.specs.Rows.{RowOf}
use Rattle.table.specs.FillingOf.{grammar_of, Right}
use Rattle.table.specs.declared.Row.TheVariants.{Suffix}
use Rattle.table.proofs.Stays.{back, stays_right, stays_done, stays_on}
use Rattle.table.proofs.filling.Filling.fill_rests.Goals as goal

pub fill_rest-requires-clause-prefixes : goal.fill_rest-requires-clause-prefixes
fill_rest-requires-clause-prefixes g c =
    let k = c.loop-s.invariant.0 in
    λ A l. let i = back k (λ h l n. A < (g.G.Grammar.meaning h).nonterminals) l in stays_done k i (c.requires A i)

pub loop-s-preserved : goal.loop-s-preserved
loop-s-preserved g c =
    let got = c.in_ok-fill_rest.ensures in
    let rows = below_more (λ s. (q : ℕ) → RowOf (grammar_of c.fill_rest.new.self) (Suffix s q) → Right c.fill_rest.new.self (Suffix s q)) c.loop-s.s
    (λ s l q o. let i = back got.stays (λ h l n. RowOf (g.G.Grammar.meaning h) (Suffix s q)) o in stays_right got.stays i (c.loop-s.invariant.1 s q l i))
    got.done in
    (stays_on c.loop-s.invariant.0 got.stays, λ s q l o. rows s l q o)
