use Rattle.std.proofs.Common.{◌%◌, ◌<◌, arith, get_or}
use Rattle.subrectangles.proofs.Early.{like_small}
use Rattle.subrectangles.proofs.breaks.add_breaks.Goals as goal

pub overflow_add-buckets : goal.overflow_add-buckets
overflow_add-buckets c =
    let lt : get_or c.args.row.now c.loop-x.x 0 % 251 < 251 = omega arith in
    grind (
      arith,
      c.loop-x.invariant.each (get_or c.args.row.now c.loop-x.x 0 % 251) lt,
      c.requires.room (get_or c.args.row.now c.loop-x.x 0 % 251) lt,
      like_small (get_or c.args.row.now c.loop-x.x 0 % 251) c.args.row.now c.args.above.now c.loop-x.x,
      c.from-begins.type_inv,
    )
