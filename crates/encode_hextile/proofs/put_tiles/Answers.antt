use Rattle.std.proofs.Common.{ℕ, List, map}
use Rattle.pixel_translate.specs.Pixel.{pixel}
use Rattle.subrectangles.specs.Subrectangles.{rows_of}
use Rattle.encode_hextile.specs.Hextile.{nothing}
use Rattle.subrectangles.specs.Begins.{begins_more, on_err}
use Rattle.encode_hextile.proofs.Folds.{one_row_more, carried_rows}
use Rattle.encode_hextile.proofs.put_tiles.Goals as goal

pub returns-in_err-carried-clause-err : goal.returns-in_err-carried-clause-err
returns-in_err-carried-clause-err c =
    on_err c.from_residual.result _ (begins_more c.args.out.now.items c.loop-row.out.items c.put_row_of_tiles.new.out.items _ c.loop-row.invariant.items c.in_err-carried.ensures.err)

pub loop-row-preserved : goal.loop-row-preserved
loop-row-preserved c =
    let all : List (List ℕ) = rows_of c.args.colours.now.width c.args.colours.now.height (map (pixel c.args.table.now) c.args.colours.now.values.now) in
    record {
      next = carried_rows c.args.table.now all nothing c.loop-row.carried c.in_ok-carried.carried c.args.colours.now.width c.loop-row.row c.loop-row.invariant.next c.in_ok-carried.ensures.next;
      items = one_row_more c.args.table.now all nothing c.loop-row.carried c.args.out.now.items c.loop-row.out.items c.put_row_of_tiles.new.out.items c.args.colours.now.width c.loop-row.row c.loop-row.invariant.next
          c.loop-row.invariant.items c.in_ok-carried.ensures.ok;
    }
