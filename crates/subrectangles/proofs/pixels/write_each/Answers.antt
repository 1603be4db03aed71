use Rattle.std.proofs.Common.{rules, ◌≡◌, ◌<◌, ◌∙◌, length, get_or, ap, arith}
use Rattle.pixel_translate.specs.Pixel.{pixel}
use Rattle.subrectangles.proofs.Written.{put_more}
use Rattle.subrectangles.proofs.pixels.write_each.Goals.{then-piece-x, else-piece-x}
use Rattle.subrectangles.proofs.pixels.write_each.Goals as goal

pub loop-x-preserved : goal.loop-x-preserved
loop-x-preserved c =
    let f = pixel c.args.table.now in
    let again : c.if-piece-x.pixel ≡ pixel c.args.table.now c.if-piece-x.last = elim c.if-piece-x.branch [ then-piece-x w ↦ search rules | else-piece-x w ↦ search rules ] in
    let last : c.if-piece-x.last ≡ get_or c.args.piece.now c.loop-x.x 0 = elim c.if-piece-x.branch [ then-piece-x w ↦ search rules | else-piece-x w ↦ search rules ] in
    let inside : c.loop-x.x < length c.args.piece.now = omega arith in
    let room : c.loop-x.x < length c.loop-x.places = omega arith in record {
      translated = put_more f c.args.piece.now c.loop-x.places c.loop-x.x c.if-piece-x.pixel inside room c.loop-x.invariant.translated (again ∙ ap f last);
      again = again;
    }
