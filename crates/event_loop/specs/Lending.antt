-- What becomes of a loop's connections where their screen is drawn on.
use Rattle.std.specs.Borrow.{Lends, MutBor, Fml}
use Rattle.connections.specs.Drawing.{Surface}
use Rattle.connections.specs.Serving.{Serving}
use Rattle.connections.specs.Lending.{with_surface}
use Rattle.connections.specs.contracts.canvas.Canvas as canvas
use Rattle.event_loop.specs.contracts.event_loop.EventLoop.{the_row}

-- once the borrow r ends, only the screen is what it was left as
abbrev pub lends_canvas : MutBor Serving → MutBor Surface → Fml
lends_canvas s r = Lends the_row canvas.the_row s r (with_surface s.now)
