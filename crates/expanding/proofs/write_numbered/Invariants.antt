use Rattle.std.proofs.Common.{[], get_or}
use Rattle.std.specs.Iterator.Adapters.{enumerate_source, enumerate_count}
use Rattle.theory.specs.Enumerate.{sentences}
use Rattle.table.specs.GrammarCountsOf.{grammar_of}
use Rattle.expanding.specs.Expansions.{to_come}
use Rattle.expanding.proofs.Writing.{Writing}
use Rattle.expanding.proofs.write_numbered.Given as goal

abbrev pub invariant-loop-place : goal.invariant-loop-place
invariant-loop-place g l =
    let G = grammar_of l.fn.unranking.counts.now in
    let it = l.place-iterator in
    (goal.iterator-loop-place g).can_next it × (goal.iterator-loop-place g).is_finite it
    × Writing l.n (get_or (sentences (g.O.LengthPolicy.order l.fn.unranking.policy.now) G G.start l.n) l.number []) l.initial.output (to_come g.O.LengthPolicy.order (enumerate_source it)) l.output (enumerate_count it)
