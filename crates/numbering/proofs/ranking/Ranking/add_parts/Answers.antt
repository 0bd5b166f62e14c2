use Rattle.std.proofs.Common.{◌≡◌, ◌-◌, rules, arith}
use Rattle.grammar.proofs.Derived.{ll1_of}
use Rattle.numbering.specs.Parts.{no_part, frame_side}
use Rattle.numbering.proofs.Adding.{parts_drop, tokens_drop, add_none}
use Rattle.numbering.proofs.ranking.Ranking.add_parts.Goals as goal

pub loop-position-init : goal.loop-position-init
loop-position-init g c =
    let ll = ll1_of (g.met.G.Grammar.implements c.args.self.now.counts.now.grammar.now) in
    let lists = g.met.O.LengthPolicy.lists c.args.self.now.policy.now in
    let none : c.default-sum.result ≡ no_part = search rules in
    rw none (add_none ll lists c.args.frame.now c.length-position.result (omega (arith, c.length-position.ensures)))

pub add_part-sum-requires-clause-parts : goal.add_part-sum-requires-clause-parts
add_part-sum-requires-clause-parts g c =
    let f = c.args.frame.now in
    parts_drop (g.O.LengthPolicy.order c.args.self.now.policy.now) _ _ _ f.parts c.requires.parts

pub add_part-sum-requires-clause-short : goal.add_part-sum-requires-clause-short
add_part-sum-requires-clause-short g c =
    let G = g.G.Grammar.meaning c.args.self.now.counts.now.grammar.now in
    let f = c.args.frame.now in
    omega (arith, tokens_drop (g.O.LengthPolicy.order c.args.self.now.policy.now) G (c.loop-position.position - 1) (frame_side G f) f.parts, c.requires.short)
