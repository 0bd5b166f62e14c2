use Rattle.std.proofs.Common.{◌∙◌, arith, below_more, false-eqb}
use Rattle.script.proofs.Decimal.{one_digit, too_large, finished}
use Rattle.script.proofs.number.number.Goals as goal

pub returns-in_err-value : goal.returns-in_err-value
returns-in_err-value c = rw c.from_residual.ensures (too_large c.args.word.now c.loop-byte.byte-index c.loop-byte.value c.loop-byte-test.true c.loop-byte.invariant.value c.in_err-value.ensures)

pub loop-byte-preserved : goal.loop-byte-preserved
loop-byte-preserved c = record {
  digits = below_more _ _ c.loop-byte.invariant.digits c.in_ok-value.ensures.0;
  value = one_digit c.args.word.now c.loop-byte.byte-index c.loop-byte.value _ c.loop-byte-test.true c.in_ok-value.ensures.1 ∙ c.loop-byte.invariant.value;
  fits = omega arith;
}

pub returns : goal.returns
returns c = (finished c.args.word.now c.loop-byte.byte-index _ (omega (arith, false-eqb _ _ c.if-is_empty.ensures)) c.loop-byte-test.false c.loop-byte.invariant.digits c.loop-byte.invariant.value, c.loop-byte.invariant.fits)
