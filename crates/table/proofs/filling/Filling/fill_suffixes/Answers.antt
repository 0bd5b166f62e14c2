use Rattle.std.proofs.Common.{◌≡◌, ℕ, ◌+◌, ◌-◌, ◌<◌, ◌≤◌, ◌⊎◌, slice_index, sym, ◌∙◌, subst, inl, inr, ⊎_elim, le_refl, arith}
use Rattle.std.proofs.lemmas.Bool.{cases_eq}
use Rattle.theory.specs.Count.{right_of}
use Rattle.table.specs.Rows.{RowOf}
use Rattle.table.specs.Equations.{equation}
use Rattle.table.specs.Counts.{count_of}
use Rattle.table.specs.Layouts.{AtRow}
use Rattle.table.specs.Filling.{Correct, NeedsNoRest}
use Rattle.table.specs.FillingOf.{grammar_of, bound_of, Right}
use Rattle.table.specs.declared.Row.TheVariants.{Suffix}
use Rattle.table.proofs.Fills.{keeps_below}
use Rattle.table.proofs.Stays.{onward, right_back, stays_on, stays_right}
use Rattle.table.proofs.Due.{suffix_due, keeps_firsts}
use Rattle.table.proofs.filling.Filling.fill_suffixes.Goals as goal

pub fill-requires : goal.fill-requires
fill-requires g c =
    let x = c.args.self.now in
    let y = c.loop-position.self in
    let G = grammar_of x in
    let L = bound_of x in
    let m = x.length in
    let f = g.met.G.Grammar.implements x.grammar.now in
    let k = c.loop-position.invariant.0 in
    let p = c.loop-position.position in
    let w = right_of (G.slot c.args.s) in
    let far : p - 1 < c.args.to = omega arith in
    let back_one : p - 1 + 1 ≡ p = omega arith in
    let right : (q : ℕ) → p ≤ q → q < c.args.to → Correct G L y.cells.now (Suffix c.args.s q) m =
    λ q o l. right_back k (c.loop-position.invariant.1 q o l) in
    let firsts = keeps_firsts f.limits k.keeps x.ready.short c.args.s c.args.to c.requires.firsts in
    let behind : NeedsNoRest G w (p - 1) ⊎ Correct G L y.cells.now (Suffix c.args.s (p - 1 + 1)) m =
    ⊎_elim (λ e. inl (c.requires.last (p - 1) (back_one ∙ e)))
    (λ ne. inr (subst (λ (q : ℕ). Correct G L y.cells.now (Suffix c.args.s q) m) (sym back_one) (right p (le_refl p) (omega arith))))
    (cases_eq p c.args.to) in
    let at = slice_index x.layout.now.offsets c.args.s + (p - 1) in
    let stands : AtRow G (Suffix c.args.s (p - 1)) at = record { is_row = (c.requires.inside, omega arith); is = omega (arith, x.ready.table.laid.offsets c.args.s c.requires.inside) } in
    let due = suffix_due f.limits (keeps_below k.keeps (omega (arith, x.ready.short)) x.ready.below) c.args.s (p - 1) c.requires.inside (omega arith) (λ B Xs e. firsts (p - 1) B Xs far e) behind in
    record {
      stands = onward k (λ h l n. AtRow (g.G.Grammar.meaning h) (Suffix c.args.s (p - 1)) at) stands;
      due = onward k (λ h l n. equation (g.G.Grammar.meaning h) l.bound y.cells.now (Suffix c.args.s (p - 1)) n ≡ count_of (g.G.Grammar.meaning h) (Suffix c.args.s (p - 1)) n) due;
    }

pub loop-position-preserved : goal.loop-position-preserved
loop-position-preserved g c =
    let got = c.in_ok-fill.ensures in (
      stays_on c.loop-position.invariant.0 got.stays,
      λ q o l. ⊎_elim
          (λ e. subst (λ (x : ℕ). Right c.fill.new.self (Suffix c.args.s x)) (sym e) got.done)
          (λ ne. stays_right got.stays (onward c.loop-position.invariant.0 (λ h l n. RowOf (g.G.Grammar.meaning h) (Suffix c.args.s q)) (c.requires.inside, omega arith)) (c.loop-position.invariant.1 q (omega arith) l))
          (cases_eq q (c.loop-position.position - 1)),
    )
