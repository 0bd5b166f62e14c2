use Rattle.grammar.proofs.Derived.{outside_is_none}
use Rattle.grammar.proofs.outside_is_none.Goals as goal

pub returns : goal.returns
returns g c = outside_is_none (g.met.G.Grammar.implements c.args.g.now)
