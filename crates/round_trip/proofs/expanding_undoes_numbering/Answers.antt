use Rattle.round_trip.proofs.Laws.{expanding_undoes}
use Rattle.round_trip.proofs.expanding_undoes_numbering.Goals as goal

pub returns : goal.returns
returns g c = expanding_undoes (g.met.G.Grammar.implements c.args.g.now)
