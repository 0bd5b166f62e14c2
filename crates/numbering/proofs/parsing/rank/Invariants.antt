use Rattle.walk.specs.Measure.{measure}
use Rattle.numbering.specs.Frames.{suspended_frames, room_of, places}
use Rattle.numbering.specs.Parses.{ParseOf}
use Rattle.numbering.proofs.parsing.rank.Given as goal

-- it is still the parse of these tokens
abbrev pub invariant-loop-rank : goal.invariant-loop-rank
invariant-loop-rank g l = ParseOf g.O.LengthPolicy.order l.fn.ranking l.tokens l.parse

abbrev pub decreases-loop-rank : goal.decreases-loop-rank
decreases-loop-rank g l =
    measure (g.G.Grammar.meaning l.parse.ranking.counts.now.grammar.now) (room_of l.parse.suspended) (places l.parse.frame (suspended_frames l.parse.suspended))
