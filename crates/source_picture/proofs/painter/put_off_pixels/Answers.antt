use Rattle.std.proofs.Common.{◌*◌, ap}
use Rattle.source_picture.specs.Bands.{with_band}
use Rattle.source_picture.proofs.DoneLemmas.{ok_then}
use Rattle.source_picture.proofs.WaitLemmas.{rows_painted}
use Rattle.source_picture.proofs.painter.put_off_pixels.Goals as goal

pub returns-clause-painted : goal.returns-clause-painted
returns-clause-painted c config list fine was =
    ok_then c.put_off.result
    (rows_painted c.args.area c.args.bytes.now (4 * c.from.result) (with_band c.args.band.now c.args.canvas.now.screen.picture)
    (with_band c.put_off.new.band c.put_off.new.canvas.screen.picture) (ap (λ n. 4 * n) c.from.ensures))
    (c.put_off.ensures.painted config list fine was)
