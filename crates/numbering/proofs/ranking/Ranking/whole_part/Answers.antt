use Rattle.std.proofs.Common.{◌<◌, ◌≤◌, sym, ◌∙◌, arith}
use Rattle.theory.specs.Count.{right_of}
use Rattle.theory.proofs.Complete.{slot_below}
use Rattle.theory.proofs.Counting.{is_rule}
use Rattle.theory.proofs.Listing.{ways_length}
use Rattle.grammar.proofs.Derived.{ll1_of}
use Rattle.numbering.specs.Parts.{frame_side}
use Rattle.numbering.proofs.Adding.{sum_length, whole}
use Rattle.numbering.proofs.Suffixes.{ways_before_fit}
use Rattle.numbering.proofs.ranking.Ranking.whole_part.Goals as goal

pub lower_ways-requires-clause-short : goal.lower_ways-requires-clause-short
lower_ways-requires-clause-short g c =
    let G = g.G.Grammar.meaning c.args.self.now.counts.now.grammar.now in
    let ll = ll1_of (g.met.G.Grammar.implements c.args.self.now.counts.now.grammar.now) in
    let lists = g.met.O.LengthPolicy.lists c.args.self.now.policy.now in
    let f = c.args.frame.now in
    omega (arith, sum_length ll lists (frame_side G f) f.parts c.add_parts-sum.result c.add_parts-sum.ensures, c.requires.short)

pub overflow_add-result : goal.overflow_add-result
overflow_add-result g c =
    let G = g.G.Grammar.meaning c.args.self.now.counts.now.grammar.now in
    let ll = ll1_of (g.met.G.Grammar.implements c.args.self.now.counts.now.grammar.now) in
    let lists = g.met.O.LengthPolicy.lists c.args.self.now.policy.now in
    let f = c.args.frame.now in
    let u = c.add_parts-sum.result in
    let own = sym c.left.ensures ∙ c.unwrap-a.ensures in
    let inside : f.slot < G.slots = slot_below ll.limits f.slot c.unwrap-a.result (right_of (G.slot f.slot)) (is_rule (G.slot f.slot) own) in
    let short : u.length ≤ c.args.self.now.counts.now.counts.layout.bound = omega (arith, sum_length ll lists (frame_side G f) f.parts u c.add_parts-sum.ensures, c.requires.short) in
    omega (
      arith,
      ways_before_fit ll c.args.self.now.counts.now.sound c.unwrap-a.result u.length short f.slot f.slot u.rank (omega arith) inside own
          (omega (arith, ways_length ll lists (frame_side G f) u.length, c.add_parts-sum.ensures.low)),
    )

pub returns : goal.returns
returns g c =
    let G = g.G.Grammar.meaning c.args.self.now.counts.now.grammar.now in
    let ll = ll1_of (g.met.G.Grammar.implements c.args.self.now.counts.now.grammar.now) in
    let lists = g.met.O.LengthPolicy.lists c.args.self.now.policy.now in
    let f = c.args.frame.now in
    let a = c.unwrap-a.result in
    let own = sym c.left.ensures ∙ c.unwrap-a.ensures in
    whole ll lists f a c.add_parts-sum.result _ own (slot_below ll.limits f.slot a (right_of (G.slot f.slot)) (is_rule (G.slot f.slot) own)) c.add_parts-sum.ensures
    (omega (arith, c.lower_ways.ensures))
