use Rattle.std.proofs.Common.{arith}
use Rattle.server_reader.proofs.HextileLemmas.{first_of_tiles}
use Rattle.server_reader.proofs.tiles.first_tile.Goals as goal

pub returns-clause-rest : goal.returns-clause-rest
returns-clause-rest c d bytes =
    first_of_tiles c.args.rectangle c.nothing.result d bytes (omega (arith, c.if-rectangle-eq0.false)) (omega (arith, c.if-rectangle-eq0-2.false)) c.nothing.ensures

pub returns-then-rectangle-eq0-clause-on : goal.returns-then-rectangle-eq0-clause-on
returns-then-rectangle-eq0-clause-on c size on = c.next_rectangle.ensures.on size
