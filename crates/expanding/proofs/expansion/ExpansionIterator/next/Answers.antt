use Rattle.std.proofs.Common.{length, sym, ap, ◌∙◌, arith}
use Rattle.grammar.proofs.Derived.{ll1_of}
use Rattle.table.proofs.Sides.{side_six}
use Rattle.expanding.proofs.Steps.{position_inside, token_left, token_step, token_first}
use Rattle.expanding.proofs.Suspended.{pop_step, end_step}
use Rattle.expanding.proofs.expansion.ExpansionIterator.next.Goals as goal

pub past_token-self-requires : goal.past_token-self-requires
past_token-self-requires g c =
    let u = c.loop-t.self.unranking in
    let ll = ll1_of (g.met.G.Grammar.implements u.counts.now.grammar.now) in
    let lists = g.met.O.LengthPolicy.lists u.policy.now in
    let st = c.loop-t.invariant.0 in
    let e = rw c.in-Some-Terminal.field-0-is at c.in-Some-Terminal.ensures in
    let six = side_six ll.limits c.loop-t.self.frame.slot in
    (omega (arith, position_inside ll lists st _ e), token_left ll lists st _ e)

pub returns-in-Some-Terminal-clause-steps : goal.returns-in-Some-Terminal-clause-steps
returns-in-Some-Terminal-clause-steps g c =
    let u = c.loop-t.self.unranking in
    let ll = ll1_of (g.met.G.Grammar.implements u.counts.now.grammar.now) in
    let lists = g.met.O.LengthPolicy.lists u.policy.now in
    let e = rw c.in-Some-Terminal.field-0-is at c.in-Some-Terminal.ensures in
    sym c.loop-t.invariant.1 ∙ rw c.past_token-self.ensures (token_first ll lists c.loop-t.invariant.0 _ e)

pub returns-in-Some-Terminal-clause-goes : goal.returns-in-Some-Terminal-clause-goes
returns-in-Some-Terminal-clause-goes g c =
    let u = c.loop-t.self.unranking in
    let ll = ll1_of (g.met.G.Grammar.implements u.counts.now.grammar.now) in
    let lists = g.met.O.LengthPolicy.lists u.policy.now in
    let e = rw c.in-Some-Terminal.field-0-is at c.in-Some-Terminal.ensures in
    let st = token_step ll lists c.loop-t.invariant.0 _ e in
    let first = returns-in-Some-Terminal-clause-steps g c in
    record { on = λ f. (rw c.past_token-self.ensures st, tt, omega (arith, ap length first)); keeps = rw c.past_token-self.ensures st; rests = λ f. tt }

pub returns-in_err-self-in-None-clause-steps : goal.returns-in_err-self-in-None-clause-steps
returns-in_err-self-in-None-clause-steps g c =
    let d = c.loop-t.self in
    let ll = ll1_of (g.met.G.Grammar.implements d.unranking.counts.now.grammar.now) in
    let lists = g.met.O.LengthPolicy.lists d.unranking.policy.now in
    let done = end_step g.O.LengthPolicy.order d ll lists c.loop-t.invariant.0 c.in-None.ensures c.in_err-self-in-None.ensures in
    rw c.from_residual.ensures (sym c.loop-t.invariant.1 ∙ done.0, done.1)

pub loop-t-smaller : goal.loop-t-smaller
loop-t-smaller g c =
    let d = c.loop-t.self in
    let ll = ll1_of (g.met.G.Grammar.implements d.unranking.counts.now.grammar.now) in
    let lists = g.met.O.LengthPolicy.lists d.unranking.policy.now in
    (pop_step g.O.LengthPolicy.order d ll lists c.loop-t.invariant.0 c.in-None.ensures c.in_ok-self-in-None.ensures).falls

pub loop-t-preserved : goal.loop-t-preserved
loop-t-preserved g c =
    let d = c.loop-t.self in
    let ll = ll1_of (g.met.G.Grammar.implements d.unranking.counts.now.grammar.now) in
    let lists = g.met.O.LengthPolicy.lists d.unranking.policy.now in
    let step = pop_step g.O.LengthPolicy.order d ll lists c.loop-t.invariant.0 c.in-None.ensures c.in_ok-self-in-None.ensures in
    (step.at, step.same ∙ c.loop-t.invariant.1)
