use Rattle.std.proofs.Common.{◌-◌, arith}
use Rattle.walk.proofs.Splits.{listed_none, right_factor_positive}
use Rattle.expanding.specs.Dividing.{cell_of}
use Rattle.expanding.proofs.Parts.{length_short, product_in_sum, behind_product, divided, no_more_products}
use Rattle.expanding.proofs.dividing.divide.Goals as goal

pub loop-i-init : goal.loop-i-init
loop-i-init g c = omega (arith, listed_none (cell_of c.args.first.now) (cell_of c.args.rest.now) c.args.m)

pub overflow_sub-rests : goal.overflow_sub-rests
overflow_sub-rests g c =
    length_short (g.met.O.LengthPolicy.lists c.args.policy.now) c.args.m c.loop-i.i c.length_at-length.result (omega arith) c.length_at-length.ensures

pub offset_bounds-first-length : goal.offset_bounds-first-length
offset_bounds-first-length g c =
    let l = length_short (g.met.O.LengthPolicy.lists c.args.policy.now) c.args.m c.loop-i.i c.length_at-length.result (omega arith) c.length_at-length.ensures in
    omega (arith, c.requires.small)

pub bounds-first-length : goal.bounds-first-length
bounds-first-length g c =
    let l = length_short (g.met.O.LengthPolicy.lists c.args.policy.now) c.args.m c.loop-i.i c.length_at-length.result (omega arith) c.length_at-length.ensures in
    omega (arith, c.requires.first)

pub overflow_mul-first : goal.overflow_mul-first
overflow_mul-first g c =
    let l = product_in_sum (g.met.O.LengthPolicy.lists c.args.policy.now) (cell_of c.args.first.now) (cell_of c.args.rest.now) c.args.m c.loop-i.i
    c.length_at-length.result (omega arith) c.length_at-length.ensures in
    omega (arith, c.requires.within)

pub quotient_part-requires : goal.quotient_part-requires
quotient_part-requires g c =
    let l = length_short (g.met.O.LengthPolicy.lists c.args.policy.now) c.args.m c.loop-i.i c.length_at-length.result (omega arith) c.length_at-length.ensures in
    (omega (arith, c.requires.small), right_factor_positive c.loop-i.left (cell_of c.args.first.now c.length_at-length.result) (cell_of c.args.rest.now (c.args.m - c.length_at-length.result)) (omega (arith, c.in-None.ensures)))

pub returns-in-None : goal.returns-in-None
returns-in-None g c =
    divided (g.met.O.LengthPolicy.lists c.args.policy.now) (cell_of c.args.first.now) (cell_of c.args.rest.now) c.args.m c.loop-i.i
    c.length_at-length.result (omega arith) c.length_at-length.ensures c.args.rank c.loop-i.left c.quotient_part.result
    c.loop-i.invariant (omega (arith, c.in-None.ensures)) c.quotient_part.ensures.length c.quotient_part.ensures.rank c.quotient_part.ensures.rest

pub loop-i-preserved : goal.loop-i-preserved
loop-i-preserved g c =
    behind_product (g.met.O.LengthPolicy.lists c.args.policy.now) (cell_of c.args.first.now) (cell_of c.args.rest.now) c.args.m c.loop-i.i
    c.length_at-length.result (omega arith) c.length_at-length.ensures c.args.rank c.loop-i.left c.in-Some.behind
    c.loop-i.invariant (omega (arith, c.in-Some.ensures))

pub unreachable-requires : goal.unreachable-requires
unreachable-requires g c =
    no_more_products (g.met.O.LengthPolicy.lists c.args.policy.now) (cell_of c.args.first.now) (cell_of c.args.rest.now) c.args.m c.loop-i.i
    c.args.rank c.loop-i.left (omega arith) c.loop-i.invariant c.requires.low
