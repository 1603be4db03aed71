use Rattle.std.proofs.Common.{rules, ◌≡◌, ◌<◌, ◌≤◌, ◌∙◌, length, get_or, sym, ap, arith}
use Rattle.pixel_translate.specs.Pixel.{pixel}
use Rattle.subrectangles.proofs.Written.{put_more, byte_small, other_of}
use Rattle.subrectangles.proofs.pixels.write_two.Goals.{then-colour-one, else-colour-one}
use Rattle.subrectangles.proofs.pixels.write_two.Goals as goal

pub loop-x-preserved : goal.loop-x-preserved
loop-x-preserved c =
    let f = pixel c.args.table.now in
    let inside : c.loop-x.x < length c.args.piece.now = omega arith in
    let room : c.loop-x.x < length c.loop-x.places = omega arith in
    let small : c.from.result ≤ 1 = rw c.from.ensures (byte_small _) in record {
      translated = λ none.
          let here : c.from.result ≡ 0 = omega arith in
          let before : c.loop-x.strangers ≡ 0 = omega arith in
          let written : c.if-colour-one.places ≡ f (get_or c.args.piece.now c.loop-x.x 0) = elim c.if-colour-one.branch [
            | then-colour-one w ↦ search rules
            | else-colour-one w ↦ w.places-is ∙ c.translate-other_pixel.ensures.pixel ∙ ap f (sym (other_of (get_or c.args.piece.now c.loop-x.x 0) c.args.one c.args.other (sym c.from.ensures ∙ here) w.if-colour-one.false))
          ] in
          put_more f c.args.piece.now c.loop-x.places c.loop-x.x c.if-colour-one.places inside room (c.loop-x.invariant.translated before) written;
      small = omega arith;
    }
