use Rattle.std.proofs.Common.{arith, rules}
use Rattle.grammar.proofs.Derived.{ll1_of}
use Rattle.theory.proofs.Listing.{sentences_length}
use Rattle.expanding.proofs.Suspended.{push_room, push_step}
use Rattle.expanding.proofs.expansion.Expansion.enter.Goals as goal

pub open-opened-requires-clause-low : goal.open-opened-requires-clause-low
open-opened-requires-clause-low g c =
    let u = c.args.self.now.unranking in
    let ll = ll1_of (g.met.G.Grammar.implements u.counts.now.grammar.now) in
    let lists = g.met.O.LengthPolicy.lists u.policy.now in
    omega (arith, c.first_part-part.ensures.first, sentences_length ll lists c.args.a c.first_part-part.result.length)

pub unwrap-requires : goal.unwrap-requires
unwrap-requires g c =
    let d = c.args.self.now in
    let ll = ll1_of (g.met.G.Grammar.implements d.unranking.counts.now.grammar.now) in
    let lists = g.met.O.LengthPolicy.lists d.unranking.policy.now in
    let room = push_room g.O.LengthPolicy.order d ll lists c.requires.at c.args.a c.requires.here in
    search rules

pub returns : goal.returns
returns g c =
    let d = c.args.self.now in
    let ll = ll1_of (g.met.G.Grammar.implements d.unranking.counts.now.grammar.now) in
    let lists = g.met.O.LengthPolicy.lists d.unranking.policy.now in
    push_step g.O.LengthPolicy.order d ll lists c.requires.at c.args.a c.requires.here c.first_part-part.ensures c.open-opened.ensures c.behind.ensures (rw c.unwrap.ensures at c.push.ensures)
