use Rattle.std.proofs.Common.{◌∙◌, rules, arith}
use Rattle.std.specs.List.{range_with_len}
use Rattle.std.proofs.lemmas.Iterator.{YieldsList-from_range, YieldsList-from_map}
use Rattle.std.proofs.lemmas.Iterator.Consumers.{fits_by_from_yields_list, sum_by_from_yields_List}
use Rattle.grammar.proofs.Derived.{ll1_of}
use Rattle.numbering.proofs.Suffixes.{read_ways, ways_all, ways_before_fit}
use Rattle.numbering.proofs.ranking.Ranking.lower_ways.Goals as goal

pub sum-requires-clause-fits : goal.sum-requires-clause-fits
sum-requires-clause-fits g c =
    let counts = c.args.self.now.counts.now in
    let ll = ll1_of (g.met.G.Grammar.implements counts.grammar.now) in
    let ways = read_ways ll counts.sound c.args.a c.args.m c.requires.short in
    fits_by_from_yields_list ways (range_with_len 0 c.args.slot) c.map.result _
    (YieldsList-from_map _ ways (YieldsList-from_range 0 c.args.slot c.args.slot c.map.ensures.source (omega arith)) c.map.ensures.closure (λ x r q k. search rules))
    (omega (
      arith,
      ways_all ll counts.sound c.args.a c.args.m c.requires.short c.args.slot (omega arith),
      ways_before_fit ll counts.sound c.args.a c.args.m c.requires.short c.args.slot c.args.slot 0 (omega arith) c.requires.inside c.requires.own (omega arith),
    ))

pub returns : goal.returns
returns g c =
    let counts = c.args.self.now.counts.now in
    let ll = ll1_of (g.met.G.Grammar.implements counts.grammar.now) in
    let ways = read_ways ll counts.sound c.args.a c.args.m c.requires.short in
    sum_by_from_yields_List ways (range_with_len 0 c.args.slot) c.map.result c.sum.result c.sum.ensures.ran
    (YieldsList-from_map _ ways (YieldsList-from_range 0 c.args.slot c.args.slot c.map.ensures.source (omega arith)) c.map.ensures.closure (λ x r q k. search rules))
    ∙ ways_all ll counts.sound c.args.a c.args.m c.requires.short c.args.slot (omega arith)
