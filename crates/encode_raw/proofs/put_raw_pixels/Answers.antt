use Rattle.std.proofs.Common.{ℕ, ◌≤◌, ◌+◌, length, arith}
use Rattle.pixel_translate.specs.Pixel.{colour_bytes}
use Rattle.encode_raw.proofs.Pieces.{piece_more}
use Rattle.encode_raw.proofs.put_raw_pixels.Goals as goal

pub loop-from-preserved : goal.loop-from-preserved
loop-from-preserved c =
    let end : ℕ = c.loop-from.from + c.min.result in
    let within : end ≤ length c.args.colours.now = omega (arith, c.min.ensures) in
    let on : c.loop-from.from ≤ end = omega arith in record {
      written = piece_more (colour_bytes c.args.table.now) c.args.out.now.items c.loop-from.out.items c.put_piece.new.out.items c.args.colours.now c.loop-from.from end on c.loop-from.invariant.written c.in_default.ensures.ok;
      within = within;
    }
