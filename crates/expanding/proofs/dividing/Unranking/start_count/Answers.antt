use Rattle.grammar.proofs.Derived.{ll1_of}
use Rattle.expanding.proofs.Parts.{start_count}
use Rattle.expanding.proofs.dividing.Unranking.start_count.Goals as goal

pub bounds-row-n : goal.bounds-row-n
bounds-row-n g c =
    let counts = c.args.self.now.counts.now in
    (start_count (ll1_of (g.met.G.Grammar.implements counts.grammar.now)) counts.sound c.args.n c.start-start.result c.row.result.now c.requires c.start-start.ensures c.row.ensures).0

pub returns : goal.returns
returns g c =
    let counts = c.args.self.now.counts.now in
    (start_count (ll1_of (g.met.G.Grammar.implements counts.grammar.now)) counts.sound c.args.n c.start-start.result c.row.result.now c.requires c.start-start.ensures c.row.ensures).1
