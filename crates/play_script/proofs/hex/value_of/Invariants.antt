use Rattle.std.proofs.Common.{◌≡◌, take}
use Rattle.play_script.specs.Words.{value_in}
use Rattle.play_script.proofs.hex.value_of.Given as goal

abbrev pub invariant-loop-digit : goal.invariant-loop-digit
invariant-loop-digit l = l.value ≡ value_in 16 (take l.digit-index l.digits)
