use Rattle.std.proofs.Common.{arith}
use Rattle.subrectangles.specs.Rows.{some_values}
use Rattle.encode_hextile.proofs.Lists.{count_fits}
use Rattle.encode_hextile.proofs.bytes.put_list.Goals as goal

pub overflow_cast-count : goal.overflow_cast-count
overflow_cast-count c =
    let few = count_fits c.background_is_most_frequent.ensures c.args.pixels.now.width c.args.pixels.now.height c.args.pixels.now.values.now c.args.palette.background c.args.pixels.now.whole (some_values c.args.pixels.now) c.requires.columns c.requires.rows c.requires.stands in
    record { fits = omega (arith, few, (rw c.in-Some.is at c.list_subrectangles.ensures).0) }
