use Rattle.grammar.proofs.Derived.{ll1_of}
use Rattle.stack.proofs.Tops.{held_none}
use Rattle.expanding.proofs.Steps.{begin, begin_whole}
use Rattle.expanding.proofs.expansion.Expansion.begin.Goals as goal

pub returns-clause-at : goal.returns-clause-at
returns-clause-at g c =
    let u = c.args.unranking in
    let ll = ll1_of (g.met.G.Grammar.implements u.counts.now.grammar.now) in
    let lists = g.met.O.LengthPolicy.lists u.policy.now in
    let opened = rw c.start-start.ensures at c.open-frame.ensures in
    rw (held_none c.over.result c.over.ensures.empty, c.over.ensures.unchanged)
    (begin ll lists c.args.n c.args.number c.open-frame.result c.requires.short c.requires.room opened)

pub returns-clause-whole : goal.returns-clause-whole
returns-clause-whole g c =
    let u = c.args.unranking in
    let ll = ll1_of (g.met.G.Grammar.implements u.counts.now.grammar.now) in
    let lists = g.met.O.LengthPolicy.lists u.policy.now in
    let opened = rw c.start-start.ensures at c.open-frame.ensures in
    rw (held_none c.over.result c.over.ensures.empty) (begin_whole ll lists c.args.n c.args.number c.open-frame.result opened)
