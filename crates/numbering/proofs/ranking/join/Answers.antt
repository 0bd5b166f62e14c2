use Rattle.std.proofs.Common.{◌+◌, refl, sym, ◌∙◌, arith, below_more}
use Rattle.walk.proofs.Splits.{listed_none}
use Rattle.numbering.proofs.Joining.{never_missed, listed_short, product_fits, product_more, joined_at, joined_fits}
use Rattle.numbering.proofs.ranking.join.Goals as goal
use Rattle.numbering.proofs.ranking.join.Goals.{else-loop-i-test, then-loop-i-test+else-length-part+else-i-m}

pub loop-i-init : goal.loop-i-init
loop-i-init g c = (sym (listed_none _ _ _), λ n l e. omega arith)

pub overflow_mul-result : goal.overflow_mul-result
overflow_mul-result g c =
    let fits = joined_fits (g.met.O.LengthPolicy.lists c.args.policy.now) c.args.part c.args.rest _ _ c.loop-i-test.true c.length_at-length.ensures c.if-length-part.true
    c.args.firsts.now c.args.rests.now _ c.loop-i.invariant.0 c.requires.part_low c.requires.rest_low c.requires.small in
    omega arith

pub overflow_add-result : goal.overflow_add-result
overflow_add-result g c =
    let fits = joined_fits (g.met.O.LengthPolicy.lists c.args.policy.now) c.args.part c.args.rest _ _ c.loop-i-test.true c.length_at-length.ensures c.if-length-part.true
    c.args.firsts.now c.args.rests.now _ c.loop-i.invariant.0 c.requires.part_low c.requires.rest_low c.requires.small in
    omega arith

pub overflow_add-result-then-length-part : goal.overflow_add-result-then-length-part
overflow_add-result-then-length-part g c =
    let fits = joined_fits (g.met.O.LengthPolicy.lists c.args.policy.now) c.args.part c.args.rest _ _ c.loop-i-test.true c.length_at-length.ensures c.if-length-part.true
    c.args.firsts.now c.args.rests.now _ c.loop-i.invariant.0 c.requires.part_low c.requires.rest_low c.requires.small in
    omega arith

pub returns-then-length-part : goal.returns-then-length-part
returns-then-length-part g c = (
  c.loop-i.i,
  joined_at (g.met.O.LengthPolicy.lists c.args.policy.now) c.args.part c.args.rest _ _ c.loop-i-test.true c.length_at-length.ensures c.if-length-part.true
      c.args.firsts.now c.args.rests.now _ c.loop-i.invariant.0 c.requires.part_low c.requires.rest_low _ refl,
)

pub offset_bounds-firsts-length : goal.offset_bounds-firsts-length
offset_bounds-firsts-length g c =
    let l = listed_short (g.met.O.LengthPolicy.lists c.args.policy.now) _ _ _ c.loop-i-test.true c.length_at-length.ensures in
    omega arith

pub bounds-firsts-length : goal.bounds-firsts-length
bounds-firsts-length g c =
    let l = listed_short (g.met.O.LengthPolicy.lists c.args.policy.now) _ _ _ c.loop-i-test.true c.length_at-length.ensures in
    omega arith

pub overflow_sub-before : goal.overflow_sub-before
overflow_sub-before g c = listed_short (g.met.O.LengthPolicy.lists c.args.policy.now) _ _ _ c.loop-i-test.true c.length_at-length.ensures

pub overflow_mul-before : goal.overflow_mul-before
overflow_mul-before g c =
    let fits = product_fits (g.met.O.LengthPolicy.lists c.args.policy.now) _ _ _ c.loop-i-test.true c.length_at-length.ensures
    c.args.firsts.now c.args.rests.now _ c.loop-i.invariant.0 c.requires.small in
    omega arith

pub overflow_add-before : goal.overflow_add-before
overflow_add-before g c =
    let fits = product_fits (g.met.O.LengthPolicy.lists c.args.policy.now) _ _ _ c.loop-i-test.true c.length_at-length.ensures
    c.args.firsts.now c.args.rests.now _ c.loop-i.invariant.0 c.requires.small in
    omega arith

pub loop-i-preserved : goal.loop-i-preserved
loop-i-preserved g c = (
  product_more (g.met.O.LengthPolicy.lists c.args.policy.now) _ _ _ c.loop-i-test.true c.length_at-length.ensures
      c.args.firsts.now c.args.rests.now _ c.loop-i.invariant.0,
  below_more _ _ c.loop-i.invariant.1 (λ e. c.if-length-part.false (c.length_at-length.ensures ∙ e)),
)

pub unreachable-requires : goal.unreachable-requires
unreachable-requires g c =
    let missed = never_missed (g.met.O.LengthPolicy.lists c.args.policy.now) (c.args.part.length + c.args.rest.length) c.args.part.length (omega arith) in
    elim c.loop-i-test.branch [
      | else-loop-i-test w ↦ missed (λ i l. c.loop-i.invariant.1 i (omega arith))
      | then-loop-i-test+else-length-part+else-i-m w ↦
          missed (λ i l. below_more _ _ c.loop-i.invariant.1 (λ e. w.if-length-part.false (w.length_at-length.ensures ∙ e)) i (omega arith))
    ]
