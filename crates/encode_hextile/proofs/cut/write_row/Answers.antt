use Rattle.pixel_translate.specs.Pixel.{pixel}
use Rattle.encode_hextile.proofs.Cuts.{one_more}
use Rattle.encode_hextile.proofs.cut.write_row.Goals as goal

pub loop-x-preserved : goal.loop-x-preserved
loop-x-preserved c = record {
  written = one_more (pixel c.args.table.now) c.args.colours.now c.args.places.now c.loop-x.places c.loop-x.x c.pixel_after-known.result c.loop-x-test.true c.requires c.loop-x.invariant.written c.pixel_after-known.ensures;
  known = c.pixel_after-known.ensures;
}
