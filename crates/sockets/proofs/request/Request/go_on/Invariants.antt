use Rattle.sockets.specs.Requests.{GoesOn, known_of}
use Rattle.sockets.proofs.request.Request.go_on.Given as goal

abbrev pub invariant-loop : goal.invariant-loop
invariant-loop g l = GoesOn l.admission.hosts l.admission.origins (known_of g.T.Transport.unread g.T.Transport.written l.fn.self) (known_of g.T.Transport.unread g.T.Transport.written l.self)
