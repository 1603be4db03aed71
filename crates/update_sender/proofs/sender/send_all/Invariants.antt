use Rattle.update_sender.specs.Serving.{IsSent, SendsUpdates}
use Rattle.update_sender.proofs.sender.send_all.Given as goal

abbrev pub invariant-loop : goal.invariant-loop
invariant-loop g l =
    SendsUpdates (IsSent (g.G.Gate.lets_encode l.gate l.viewer) (g.G.Gate.lets_write l.gate l.viewer) (g.G.Gate.was_told l.gate l.viewer))
    (g.W.Write.contents l.fn.writer) (g.W.Write.contents l.writer) l.fn.speaker l.speaker
