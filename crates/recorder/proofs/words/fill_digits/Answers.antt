use Rattle.std.proofs.Common.{◌/◌, ℕ, [], ◌∷◌, get_or, ap, ◌∙◌, arith}
use Rattle.recorder.specs.Words.{hex_digit}
use Rattle.recorder.proofs.Digits.{two-more}
use Rattle.recorder.proofs.words.fill_digits.Goals as goal

pub loop-at-preserved : goal.loop-at-preserved
loop-at-preserved c =
    let byte : ℕ = get_or c.args.bytes.now c.loop-at.at 0 in
    let high = c.hex_digit.result in
    let low = c.hex_digit-in-loop-at.result in
    two-more c.loop-at.digits c.args.bytes.now c.loop-at.at high low c.loop-at-test.true (omega arith)
    (ap (λ (n : ℕ). n ∷ low ∷ []) c.hex_digit.ensures ∙ ap (λ (n : ℕ). hex_digit (byte / 16) ∷ n ∷ []) c.hex_digit-in-loop-at.ensures) c.loop-at.invariant
