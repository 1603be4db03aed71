use Rattle.std.proofs.Common.{take, flat_map}
use Rattle.std.specs.Io.KnownBytes.{Appends}
use Rattle.demo_app.specs.Endings.{end_line}
use Rattle.demo_app.proofs.endings.print_ends.Given as goal

-- the lines of the receipts so far were written
abbrev pub invariant-loop-receipt : goal.invariant-loop-receipt
invariant-loop-receipt g l = Appends (g.W.Write.contents l.fn.writer) (g.W.Write.contents l.writer) (flat_map end_line (take l.receipt-index l.receipts))
