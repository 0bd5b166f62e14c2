use Rattle.round_trip.proofs.Laws.{numbering_undoes}
use Rattle.round_trip.proofs.numbering_undoes_expanding.Goals as goal

pub returns : goal.returns
returns g c = numbering_undoes (g.met.G.Grammar.implements c.args.g.now)
