use Rattle.std.proofs.Common.{◌≡◌, ◌*◌, take}
use Rattle.recorder.specs.Words.{hex}
use Rattle.recorder.proofs.words.fill_digits.Given as goal

abbrev pub invariant-loop-at : goal.invariant-loop-at
invariant-loop-at l = take (2 * l.at) l.digits ≡ hex (take l.at l.bytes)
