use Rattle.std.proofs.Common.{subst}
use Rattle.screen.specs.Frame.{Frame}
use Rattle.source_picture.specs.Bands.{with_band}
use Rattle.source_picture.specs.Painting.{with_rows, IsPainted}
use Rattle.source_picture.proofs.WaitLemmas.{put_painted}
use Rattle.source_picture.proofs.painter.put_off.Goals as goal

pub returns-clause-painted : goal.returns-clause-painted
returns-clause-painted c config list fine was =
    let made = c.in_ok-make_way.ensures in
    let picture = c.make_way.new.canvas.screen.picture in
    let P : Frame → Type 0 = λ f. IsPainted (with_rows c.args.area c.args.rows.now c.args.stride) f (with_band c.put.new.self picture) in
    subst P (made.same config list fine was)
    (put_painted c.make_way.new.band c.put.new.self c.args.area c.args.rows.now c.args.stride picture made.goes_on made.wide c.put.ensures.area c.put.ensures.pixels)
