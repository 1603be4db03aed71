use Rattle.std.proofs.Common.{arith}
use Rattle.server_reader.proofs.TileLemmas.{next_column, next_row}
use Rattle.server_reader.proofs.tiles.behind_tile.Goals as goal

pub returns-then-from-clause-rest : goal.returns-then-from-clause-rest
returns-then-from-clause-rest c d bytes = next_column c.args.tile c.args.carried d bytes (omega (arith, c.if-from.true, c.from.ensures, c.from-2.ensures))

pub returns-then-from-2-clause-rest : goal.returns-then-from-2-clause-rest
returns-then-from-2-clause-rest c d bytes =
    next_row c.args.tile c.args.carried d bytes (omega (arith, c.if-from.false, c.from.ensures, c.from-2.ensures)) (omega (arith, c.if-from-2.true, c.from-3.ensures, c.from-4.ensures))

pub returns-clause-on : goal.returns-clause-on
returns-clause-on c size on = c.next_rectangle.ensures.on size
