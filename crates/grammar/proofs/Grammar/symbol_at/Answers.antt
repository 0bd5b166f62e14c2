use Rattle.grammar.proofs.Symbols.{said_at, known}
use Rattle.grammar.proofs.Grammar.symbol_at.Goals as goal

pub returns : goal.returns
returns g c =
    let l = (g.met.Self.Grammar.implements c.args.self.now).limits in
    said_at _ _ l.terminals_high _ (known l c.args.slot) _ _ _ c.symbol.ensures c.map.ensures.cases
