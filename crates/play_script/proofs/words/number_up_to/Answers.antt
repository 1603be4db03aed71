use Rattle.std.proofs.Common.{◌<◌, ◌+◌, ◌*◌, arith, get_or, sym, ◌∙◌, refl}
use Rattle.std.specs.Char.{digit_value}
use Rattle.play_script.proofs.WordLemmas.{over_limit, value_in_next}
use Rattle.play_script.proofs.words.number_up_to.Goals as goal

pub returns-in_err-value : goal.returns-in_err-value
returns-in_err-value c =
    let word = c.args.word.now in
    let i = c.loop-byte.byte-index in
    let big : c.args.limit < 10 * c.loop-byte.value + digit_value (get_or word i 0) = omega (arith, c.in_err-value.ensures) in
    c.from_residual.ensures ∙ over_limit c.args.limit c.loop-byte.value _ word i c.loop-byte-test.true c.loop-byte.invariant refl big

pub loop-byte-preserved : goal.loop-byte-preserved
loop-byte-preserved c =
    c.in_ok-value.ensures.1 ∙ sym (value_in_next 10 c.loop-byte.value _ c.args.word.now c.loop-byte.byte-index c.loop-byte-test.true c.loop-byte.invariant refl)
