use Rattle.parser.proofs.Sentences.{goes_through_exactly_for_sentences}
use Rattle.parser.proofs.goes_through_exactly_for_sentences.Goals as goal

pub returns : goal.returns
returns g c = goes_through_exactly_for_sentences (g.met.G.Grammar.implements c.args.g.now)
