use Rattle.std.proofs.Common.{Ok, false, true, [], ◌∷◌, ◌++◌}
use Rattle.std.proofs.lemmas.Result.{err_from_is_err_and}
use Rattle.event_loop.specs.declared.event_loop.LoopError.{LoopError}
use Rattle.connections.specs.Telling.{Left, said_by, releases}
use Rattle.connections.specs.TellingLemmas.{told-all, told-ended}
use Rattle.event_loop.proofs.Steps.{on-from, tells-silently, tells-parted}
use Rattle.event_loop.proofs.event_loop.EventLoop.part_with_one.Goals as goal

pub returns-in_default : goal.returns-in_default
returns-in_default g c =
    let before = c.args.application.now in
    record {
      served = tells-silently g.A.Application.stands {E = LoopError} before before (Ok false) _ _ (λ told h. h)
          (on-from c.args.self.now c.self.inside.viewers.connections c.take_departed.new.self c.self.view_is (λ config began list s. let h = c.in_default.ensures.served config began list s in (h.0, h.1, h.2)));
    }

pub returns-in_err-tell_left : goal.returns-in_err-tell_left
returns-in_err-tell_left g c =
    let stands = g.A.Application.stands in
    let d = c.in-Some.departed in
    let told = said_by d.receipt.viewer (releases d.held) ++ Left d.receipt ∷ [] in
    let before = c.args.application.now in
    let after = c.tell_left.new.application in
    let error = err_from_is_err_and c.from_residual.result c.from_residual.ensures.1 in
    record {
      served = tells-parted stands before after c.from_residual.result c.args.self.now c.self.inside.viewers.connections c.take_departed.new.self c.tell_left.new.self _ _ d.transport (releases d.held) d.receipt c.self.view_is
          c.in-Some.ensures.served c.tell_left.ensures.served (told-ended stands before after told c.tell_left.result c.from_residual.result error.0 error.1 c.tell_left.ensures.told);
    }

pub returns : goal.returns
returns g c =
    let stands = g.A.Application.stands in
    let d = c.in-Some.departed in
    let told = said_by d.receipt.viewer (releases d.held) ++ Left d.receipt ∷ [] in
    let before = c.args.application.now in
    let after = c.tell_left.new.application in
    record {
      served = tells-parted stands {E = LoopError} before after (Ok true) c.args.self.now c.self.inside.viewers.connections c.take_departed.new.self c.tell_left.new.self _ _ d.transport (releases d.held) d.receipt c.self.view_is
          c.in-Some.ensures.served c.tell_left.ensures.served (told-all stands before after told c.tell_left.result c.in_ok-tell_left.field-0 c.in_ok-tell_left.was c.tell_left.ensures.told);
    }
