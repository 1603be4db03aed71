-- What becomes of the connections where their screen is drawn on.
use Rattle.std.specs.Borrow.{Lends, MutBor, Fml, RattleType}
use Rattle.connection.specs.declared.transport.Transport.{Ghosts}
use Rattle.connections.specs.Drawing.{Surface}
use Rattle.connections.specs.Serving.{Serving}
use Rattle.connections.specs.contracts.connections.Connections.{the_row}
use Rattle.connections.specs.contracts.canvas.Canvas as canvas

abbrev pub with_surface : Serving → Surface → Serving
with_surface s surface = record s { surface = surface }

module _ (T : RattleType) (transport : Ghosts T.Denot) (s : MutBor Serving) where
  -- once the borrow r ends, only the screen is what it was left as
  abbrev pub lends_canvas : MutBor Surface → Fml
  lends_canvas r = Lends (the_row T transport) canvas.the_row s r (with_surface s.now)
