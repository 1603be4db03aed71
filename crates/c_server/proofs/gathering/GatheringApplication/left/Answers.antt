use Rattle.std.proofs.Common.{ℕ, List, ap, inr, subst, sym}
use Rattle.std.specs.VecDeque.{deque_capacity}
use Rattle.screen.specs.declared.Input.{Input}
use Rattle.connections.specs.Telling.{inputs_told}
use Rattle.connections.specs.TellingLemmas.{inputs-left}
use Rattle.c_server.specs.Gathering.{IsKept}
use Rattle.c_server.proofs.Keeping.{visit-kept}
use Rattle.c_server.proofs.gathering.GatheringApplication.left.Goals as goal

pub returns-clause-told : goal.returns-clause-told
returns-clause-told c = λ told h.
    let kept = c.keep_visit.new.self in
    subst (λ (l : List (ℕ × Input)). IsKept l kept.inputs.items kept.visits.items (deque_capacity kept.visits) kept.lost) (sym (inputs-left told c.args.receipt))
    (visit-kept (inputs_told told) c.args.self.now.inputs.items c.keep_visit.new.self.inputs.items c.args.self.now.visits.items c.keep_visit.new.self.visits.items _ _ c.args.self.now.lost c.keep_visit.new.self.lost c.going_of.result
    (ap (λ v. v.items) c.keep_visit.ensures.inputs) c.keep_visit.ensures.kept c.keep_visit.ensures.room (inr (_, _, c.going_of.ensures)) h)
