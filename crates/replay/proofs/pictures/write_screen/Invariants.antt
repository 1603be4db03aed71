use Rattle.std.proofs.Common.{◌++◌}
use Rattle.std.specs.Prelude.{flat_map}
use Rattle.std.specs.List.{range_with_len}
use Rattle.std.specs.Io.KnownBytes.{Appends}
use Rattle.recorder.specs.Words.{colour_bytes}
use Rattle.replay.specs.Pictures.{pixmap_head, row_of}
use Rattle.replay.proofs.pictures.write_screen.Given as goal

-- the rows so far
abbrev pub invariant-loop-y : goal.invariant-loop-y
invariant-loop-y g l =
    Appends (g.W.Write.contents l.fn.writer) (g.W.Write.contents l.writer) (pixmap_head l.screen.picture.width l.screen.picture.height ++ flat_map (λ y. flat_map colour_bytes (row_of l.screen.picture y)) (range_with_len 0 l.y))
