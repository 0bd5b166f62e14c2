use Rattle.std.proofs.Common.{arith}
use Rattle.restriction.proofs.Bits.{part_fits, none_in_part, lowest_in_part}
use Rattle.restriction.proofs.lowest_from.Goals as goal

pub returns-then-part-eq0 : goal.returns-then-part-eq0
returns-then-part-eq0 c =
    none_in_part c.args.mask c.args.place _ (part_fits c.args.mask c.args.place (omega arith)) c.if-part-eq0.true

pub returns : goal.returns
returns c =
    lowest_in_part c.args.mask c.args.place _ (omega arith) (part_fits c.args.mask c.args.place (omega arith)) (omega arith)
