use Rattle.std.proofs.Common.{◌≡◌, ◌++◌, take}
use Rattle.std.specs.Prelude.{flat_map}
use Rattle.recorder.specs.Words.{colour_bytes}
use Rattle.replay.proofs.pictures.put_colours.Given as goal

-- the places so far
abbrev pub invariant-loop-colour : goal.invariant-loop-colour
invariant-loop-colour l = l.row.items ≡ l.fn.row.items ++ flat_map colour_bytes (take l.colour-index l.colours)
