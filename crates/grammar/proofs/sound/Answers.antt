use Rattle.grammar.proofs.Derived.{ll1_of}
use Rattle.grammar.proofs.sound.Goals as goal

pub returns : goal.returns
returns g c = let s = g.met.G.Grammar.implements c.args.g.now in record { limits = s.limits; sound = s.sound; ll1 = ll1_of s }
