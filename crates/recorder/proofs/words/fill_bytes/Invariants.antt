use Rattle.std.proofs.Common.{◌≡◌, ◌*◌, take}
use Rattle.std.specs.Prelude.{flat_map}
use Rattle.recorder.specs.Words.{colour_bytes}
use Rattle.recorder.proofs.words.fill_bytes.Given as goal

abbrev pub invariant-loop-at : goal.invariant-loop-at
invariant-loop-at l = take (3 * l.at) l.bytes ≡ flat_map colour_bytes (take l.at l.colours)
