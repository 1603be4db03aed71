use Rattle.std.proofs.Common.{arith}
use Rattle.server_reader.proofs.stage.PixelRows.behind_rows.Goals as goal

pub returns-clause-on : goal.returns-clause-on
returns-clause-on c size on = c.pixels_of.ensures.on size (record { right = on.0.right; bottom = omega (arith, on.0.bottom, c.requires) }) on.1
