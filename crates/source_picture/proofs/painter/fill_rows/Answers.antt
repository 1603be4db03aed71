use Rattle.std.proofs.Common.{arith, ◌++◌}
use Rattle.connections.specs.Drawing.{Surface}
use Rattle.source_picture.proofs.EventLemmas.{draws_then, stands_on}
use Rattle.source_picture.proofs.PaintLemmas.{filled_on, zero_bytes}
use Rattle.source_picture.proofs.painter.fill_rows.Goals as goal

pub fill_places-requires-clause-zeros : goal.fill_places-requires-clause-zeros
fill_places-requires-clause-zeros c = zero_bytes 16384

pub rows-preserved : goal.rows-preserved
rows-preserved c =
    let first : Surface = c.args.canvas.now in
    let before : Surface = c.rows.canvas in
    let after : Surface = c.fill_places.new.canvas in
    record {
      draws = draws_then first before after c.rows.invariant.draws c.in_ok-fill_places.ensures.draws;
      some = omega (arith, c.min-rows.ensures, c.rows-test.true);
      painted = λ config list fine was.
          let stands = stands_on config list first before c.rows.invariant.draws was in
          filled_on c.args.area c.args.pixel c.rows.filled c.min-rows.result first.screen.picture before.screen.picture after.screen.picture
          (c.rows.invariant.painted config list fine was) (c.in_ok-fill_places.ensures.painted config (list ++ stands.0) fine stands.1);
    }
