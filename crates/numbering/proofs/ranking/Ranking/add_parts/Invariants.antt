use Rattle.numbering.specs.Parts.{AddsUpFrom}
use Rattle.numbering.proofs.ranking.Ranking.add_parts.Given as goal

-- what the parts from the position on add up to
abbrev pub invariant-loop-position : goal.invariant-loop-position
invariant-loop-position g l = AddsUpFrom (g.O.LengthPolicy.order l.self.policy.now) (g.G.Grammar.meaning l.self.counts.now.grammar.now) l.frame l.position l.sum
