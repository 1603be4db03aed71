use Rattle.std.proofs.Common.{arith, sym, refl}
use Rattle.play_script.proofs.WordLemmas.{value_in_next, digits_fit}
use Rattle.play_script.proofs.hex.value_of.Goals as goal

pub overflow_mul-value : goal.overflow_mul-value
overflow_mul-value c =
    omega (arith, digits_fit c.args.digits.now c.loop-digit.digit-index c.loop-digit.value _ c.requires c.loop-digit-test.true c.loop-digit.invariant refl)

pub overflow_add-value : goal.overflow_add-value
overflow_add-value c =
    omega (arith, digits_fit c.args.digits.now c.loop-digit.digit-index c.loop-digit.value _ c.requires c.loop-digit-test.true c.loop-digit.invariant c.digit_value.ensures)

pub loop-digit-preserved : goal.loop-digit-preserved
loop-digit-preserved c =
    sym (value_in_next 16 c.loop-digit.value _ c.args.digits.now c.loop-digit.digit-index c.loop-digit-test.true c.loop-digit.invariant c.digit_value.ensures)
