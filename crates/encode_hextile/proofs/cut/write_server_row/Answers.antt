use Rattle.pixel_translate.specs.Pixel.{pixel, server_format}
use Rattle.encode_hextile.proofs.Cuts.{one_more}
use Rattle.encode_hextile.proofs.cut.write_server_row.Goals as goal

pub loop-x-preserved : goal.loop-x-preserved
loop-x-preserved c = one_more (pixel server_format) c.args.colours.now c.args.places.now c.loop-x.places c.loop-x.x c.server_pixel.result c.loop-x-test.true c.requires c.loop-x.invariant c.server_pixel.ensures
