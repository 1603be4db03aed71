use Rattle.std.proofs.Common.{◌≡◌, ◌++◌, ◌*◌, ◌<◌, ℕ, List, take, drop, map, arith, ap, ◌∙◌}
use Rattle.pixel_translate.specs.declared.PixelFormat.{PixelFormat}
use Rattle.pixel_translate.specs.Pixel.{pixel}
use Rattle.subrectangles.specs.Subrectangles.{rows_of}
use Rattle.encode_hextile.specs.Tiles.{tile_rows}
use Rattle.encode_hextile.specs.Hextile.{tile}
use Rattle.encode_hextile.proofs.Cuts.{tile_at, tile_in_front}
use Rattle.subrectangles.specs.Begins.{begins_more, on_err}
use Rattle.encode_hextile.proofs.Folds.{one_tile_more, carried_more}
use Rattle.encode_hextile.proofs.put_row_of_tiles.Goals as goal

pub returns-in_err-carried-clause-err : goal.returns-in_err-carried-clause-err
returns-in_err-carried-clause-err c =
    on_err c.from_residual.result _ (begins_more c.args.out.now.items c.loop-column.out.items c.put_tile.new.out.items _ c.loop-column.invariant.items c.in_err-carried.ensures.err)

pub loop-column-preserved : goal.loop-column-preserved
loop-column-preserved c =
    let f : PixelFormat = c.args.table.now in
    let across : ℕ = c.side_of-across.result in
    let down : ℕ = c.side_of-down.result in
    let all : List (List ℕ) = rows_of c.args.colours.now.width c.args.colours.now.height (map (pixel f) c.args.colours.now.values.now) in
    let left : 16 * c.loop-column.column < c.args.colours.now.width = omega (arith, c.side_of-across.ensures.some, c.side_of-across.ensures.size) in
    let more : List ℕ = drop (across * down) c.loop-column.places in
    let rows = tile_in_front (pixel f) c.args.colours.now.width c.args.colours.now.height c.args.colours.now.values.now c.loop-column.column c.args.row across down c.cut_tile.new.places more c.args.colours.now.whole left c.side_of-across.ensures.size
    c.side_of-down.ensures.size c.cut_tile.ensures in
    let pixels : List ℕ = take (across * down) (c.cut_tile.new.places ++ more) in
    let same : tile c.format-format.result c.loop-column.carried (rows_of across down pixels) ≡ tile f c.loop-column.carried (tile_rows all (tile_at c.loop-column.column c.args.row)) =
    ap (λ (t : PixelFormat). tile t c.loop-column.carried (rows_of across down pixels)) c.format-format.ensures ∙ ap (tile f c.loop-column.carried) rows in
    record {
      next = c.in_ok-carried.ensures.next ∙ carried_more f all c.args.before c.loop-column.carried c.args.row c.loop-column.column (tile c.format-format.result c.loop-column.carried (rows_of across down pixels)) c.loop-column.invariant.next same;
      items = one_tile_more f all c.args.before c.loop-column.carried c.args.out.now.items c.loop-column.out.items c.put_tile.new.out.items c.args.row c.loop-column.column (tile c.format-format.result c.loop-column.carried (rows_of across down pixels)) c.loop-column.invariant.next
          c.loop-column.invariant.items same c.in_ok-carried.ensures.ok;
    }
