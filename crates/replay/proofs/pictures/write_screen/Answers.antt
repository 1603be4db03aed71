use Rattle.std.specs.Prelude.{flat_map}
use Rattle.recorder.specs.Words.{colour_bytes}
use Rattle.replay.specs.Pictures.{pixmap_head, row_of}
use Rattle.replay.proofs.Growing.{row_more}
use Rattle.replay.proofs.pictures.write_screen.Goals as goal

pub loop-y-preserved : goal.loop-y-preserved
loop-y-preserved g c =
    let f = c.args.screen.now.picture in
    row_more _ _ _ (pixmap_head f.width f.height) (λ y. flat_map colour_bytes (row_of f y)) c.loop-y.y c.loop-y.invariant c.in_ok-write_row.ensures
