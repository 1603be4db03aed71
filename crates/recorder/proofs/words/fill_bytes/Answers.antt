use Rattle.std.proofs.Common.{ℕ, List, [], ◌∷◌, get_or, ap, arith}
use Rattle.recorder.proofs.Digits.{three-more}
use Rattle.recorder.proofs.words.fill_bytes.Goals as goal

pub loop-at-preserved : goal.loop-at-preserved
loop-at-preserved c =
    let rgb = c.colour_bytes.result in
    three-more c.loop-at.bytes c.args.colours.now c.loop-at.at (get_or rgb 0 0) (get_or rgb 1 0) (get_or rgb 2 0) c.loop-at-test.true (omega arith)
    (ap (λ (l : List ℕ). get_or l 0 0 ∷ get_or l 1 0 ∷ get_or l 2 0 ∷ []) c.colour_bytes.ensures) c.loop-at.invariant
