use Rattle.std.proofs.Common.{◌≡◌, ◌*◌, true}
use Rattle.connection.specs.Bounds.{AreWrittenAtMost}
use Rattle.connections.specs.Turns.{TakesTurn}
use Rattle.connections.proofs.turn.send_some.Given as goal

abbrev pub invariant-loop-writes : goal.invariant-loop-writes
invariant-loop-writes g l = record {
  turn : TakesTurn l.fn.canvas l.fn.connection l.canvas l.connection;
  drawn : l.canvas.drawn ≡ l.fn.canvas.drawn;
  asks : l.connection.known.may_ask ≡ true → l.fn.connection.known.may_ask ≡ true;
  bound : AreWrittenAtMost (l._writes * 65536) l.fn.connection.carried.written l.connection.carried.written;
}
