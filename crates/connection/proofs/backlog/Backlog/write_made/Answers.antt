use Rattle.std.proofs.Common.{ℕ, List, [], ◌++◌, ◌+◌, take, drop, ap, ◌∙◌, subst}
use Rattle.std.proofs.lemmas.List.{take_rest}
use Rattle.viewer.specs.Given.{bytes_given}
use Rattle.connection.specs.Waiting.{waiting_bytes}
use Rattle.connection.specs.Connection.{Moves}
use Rattle.connection.specs.Carrying.{carried_by}
use Rattle.connection.proofs.Pieces.{taken_on, few-left}
use Rattle.connection.specs.BoundsLemmas.{writes-few}
use Rattle.connection.proofs.backlog.Backlog.write_made.Goals as goal

pub returns-else-self-len : goal.returns-else-self-len
returns-else-self-len g c =
    let i = c.self.inside in
    let n = c.write_once-count.result.0 in
    let rest = bytes_given i.update ++ i.behind.items in
    record {
      sent = (
        take n (drop i.done c.deref.result.now),
        subst (λ (l : List ℕ). Moves (carried_by g.T.Transport.unread g.T.Transport.written c.args.transport.now) (carried_by g.T.Transport.unread g.T.Transport.written c.write_once-count.new.transport) [] (take n l))
            (take_rest c.deref.result.now i.done) c.write_once-count.ensures.moved,
        ap (λ l. take n (drop i.done l) ++ (drop (i.done + n) i.made.items ++ rest)) c.deref.ensures.value ∙ taken_on i.made.items rest i.done n ∙ ap waiting_bytes c.self.view_is,
      );
      bound = writes-few 65536 n _ _ _ c.write_once-count.ensures.moved.written c.write_once-count.ensures.most;
      few = few-left (i.done + n) i.made.items i.behind.items i.update c.self.invariant.few_made c.self.invariant.few_behind;
    }
