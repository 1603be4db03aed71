use Rattle.std.proofs.Common.{◌++◌, List, ℕ, []}
use Rattle.update_sender.specs.Serving.{Hears, Sends}
use Rattle.update_sender.proofs.opening.greet.Given as goal

abbrev pub invariant-loop : goal.invariant-loop
invariant-loop g l =
    Hears (g.Rd.Read.remaining l.fn.reader) (g.Rd.Read.remaining l.reader) l.fn.listener l.listener []
    × (answers : List ℕ) × Sends (g.W.Write.contents l.fn.writer) (g.W.Write.contents l.writer) l.fn.speaker l.speaker (l.version ++ answers)
