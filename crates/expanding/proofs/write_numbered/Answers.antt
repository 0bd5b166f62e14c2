use Rattle.std.proofs.Common.{◌+◌, ◌^◌, ◌<◌, length, inl, refl, ap, ◌∙◌, arith}
use Rattle.std.proofs.lemmas.Result.{err_from_is_err_and}
use Rattle.grammar.proofs.Derived.{ll1_of}
use Rattle.std.specs.Iterator.Adapters.{enumerate_source, enumerate_count}
use Rattle.expanding.specs.Expansions.{to_come}
use Rattle.expanding.proofs.Calls.{no_number_of, sentence_long, expanded}
use Rattle.expanding.proofs.Writing.{none_written, token_written, all_written}
use Rattle.expanding.proofs.write_numbered.Goals as goal

pub returns-in_err-below_count : goal.returns-in_err-below_count
returns-in_err-below_count g c =
    let ll = ll1_of (g.met.G.Grammar.implements c.args.unranking.counts.now.grammar.now) in
    let p = err_from_is_err_and c.from_residual.result c.from_residual.ensures.1 in
    let f = c.in_err-below_count.ensures in
    rw (p.1, p.2) (no_number_of ll c.args.n c.args.number _ _ c.start_count.ensures f.0 f.1, refl)

pub begin-sentence-requires-clause-low : goal.begin-sentence-requires-clause-low
begin-sentence-requires-clause-low g c =
    let ll = ll1_of (g.met.G.Grammar.implements c.args.unranking.counts.now.grammar.now) in
    omega (arith, c.start_count.ensures, c.in_ok-below_count.ensures)

pub loop-place-init : goal.loop-place-init
loop-place-init g c =
    let u = c.args.unranking in
    let order = g.O.LengthPolicy.order in
    let ll = ll1_of (g.met.G.Grammar.implements u.counts.now.grammar.now) in
    let long = sentence_long ll (g.met.O.LengthPolicy.lists u.policy.now) c.args.n c.args.number (omega (arith, c.start_count.ensures, c.in_ok-below_count.ensures)) in
    let it = c.into_iter-place-iterator.result in
    let from = ap enumerate_source c.into_iter-place-iterator.ensures.into_iter_gives ∙ c.enumerate-place-items.ensures.source in
    let none = ap enumerate_count c.into_iter-place-iterator.ensures.into_iter_gives ∙ c.enumerate-place-items.ensures.count in
    let whole = ap (to_come order) from ∙ c.begin-sentence.ensures.whole in
    let small : enumerate_count it + length (to_come order (enumerate_source it)) < 2 ^ 64 =
    omega (arith, none, ap length whole, long, c.requires.short, u.counts.now.sound.room.small) in
    ((rw from c.begin-sentence.ensures.at, tt, inl small), tt, rw none (none_written c.args.output.now _ long whole))

pub loop-place-preserved : goal.loop-place-preserved
loop-place-preserved g c =
    let s = c.in-Some.ensures.steps in
    let on = c.in-Some.ensures.goes.on c.loop-place.invariant.1 in
    (on.0, on.1, rw (s.1, s.2) (token_written c.loop-place.invariant.2 s.0 c.requires.output))

pub returns : goal.returns
returns g c =
    let u = c.args.unranking in
    let ll = ll1_of (g.met.G.Grammar.implements u.counts.now.grammar.now) in
    let done = all_written c.loop-place.invariant.2 c.in-None.ensures.steps.0.0 in
    expanded ll (g.met.O.LengthPolicy.lists u.policy.now) c.args.n c.args.number c.args.output.now c.loop-place.output (omega (arith, c.start_count.ensures, c.in_ok-below_count.ensures)) done.0 done.1
