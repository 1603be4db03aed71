use Rattle.std.proofs.Common.{◌≡◌, take}
use Rattle.play_script.specs.Words.{value_in}
use Rattle.play_script.proofs.words.number_up_to.Given as goal

abbrev pub invariant-loop-byte : goal.invariant-loop-byte
invariant-loop-byte l = l.value ≡ value_in 10 (take l.byte-index l.word)
