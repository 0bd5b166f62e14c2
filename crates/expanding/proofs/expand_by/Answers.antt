use Rattle.std.proofs.Common.{◌≡◌, ℕ, refl, subst, arith}
use Rattle.std.proofs.lemmas.Result.{err_from_is_err_and}
use Rattle.grammar.proofs.Derived.{ll1_of}
use Rattle.expanding.specs.Calls.{SentenceAnswer}
use Rattle.expanding.proofs.Calls.{unusable_answer, usable_answer}
use Rattle.expanding.proofs.expand_by.Goals as goal

pub returns-in_err-counts : goal.returns-in_err-counts
returns-in_err-counts g c =
    let ll = ll1_of (g.met.G.Grammar.implements c.args.g.now) in
    let p = err_from_is_err_and c.from_residual.result c.from_residual.ensures.1 in
    let r = c.in_err-counts.ensures.answer in
    rw (p.1, p.2) (unusable_answer ll (g.met.O.LengthPolicy.lists c.args.policy.now) _ r.answer (λ u. let i = r.exactly.1 u in let z : ◌≡◌ {A = ℕ} 0 1 = cc in absurd (omega arith)) refl)

pub returns : goal.returns
returns g c =
    let ll = ll1_of (g.met.G.Grammar.implements c.args.g.now) in
    let r = c.in_ok-counts.ensures.answer.answer in
    usable_answer ll (g.met.O.LengthPolicy.lists c.args.policy.now) c.write_numbered.result r.0
    (subst (λ (x : _). SentenceAnswer (g.O.LengthPolicy.order c.args.policy.now) (g.G.Grammar.meaning x) c.args.n c.args.number c.args.output.now c.write_numbered.new.output c.write_numbered.result)
    c.in_ok-counts.ensures.grammar c.write_numbered.ensures)
