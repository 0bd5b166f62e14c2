use Rattle.parser.proofs.Ends.{ends_in_one_way}
use Rattle.parser.proofs.ends_in_one_way.Goals as goal

pub returns : goal.returns
returns g c = ends_in_one_way (g.met.G.Grammar.implements c.args.g.now)
