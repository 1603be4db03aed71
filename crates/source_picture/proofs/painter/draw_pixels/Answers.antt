use Rattle.std.proofs.Common.{◌*◌, ap}
use Rattle.source_picture.proofs.DoneLemmas.{pixels_fit, pixels_painted, ok_then}
use Rattle.source_picture.proofs.painter.draw_pixels.Goals as goal

pub returns-clause-painted : goal.returns-clause-painted
returns-clause-painted c config list fine was =
    ok_then c.take_rows.result
    (pixels_painted c.args.area c.args.bytes.now (4 * c.from.result) c.args.canvas.now.screen.picture c.take_rows.new.canvas.screen.picture (ap (λ n. 4 * n) c.from.ensures))
    (c.take_rows.ensures.taken config list fine was)

pub returns-clause-refused : goal.returns-clause-refused
returns-clause-refused c all = c.take_rows.ensures.refused (pixels_fit c.args.area c.args.bytes.now (4 * c.from.result) (ap (λ n. 4 * n) c.from.ensures) all)
