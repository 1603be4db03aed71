use Rattle.std.proofs.Common.{ℕ, List, ap, ◌∙◌, subst, sym}
use Rattle.std.specs.VecDeque.{deque_len, deque_capacity}
use Rattle.screen.specs.declared.Input.{Input}
use Rattle.connections.specs.Telling.{inputs_told}
use Rattle.connections.specs.TellingLemmas.{inputs-said}
use Rattle.c_server.specs.Gathering.{IsKept}
use Rattle.c_server.proofs.Keeping.{input-kept, input-put, input-fits}
use Rattle.c_server.proofs.gathering.GatheringApplication.on_input.Goals as goal

pub returns-clause-told : goal.returns-clause-told
returns-clause-told c = λ told h.
    let now = c.count_lost.new.self in
    subst (λ (l : List (ℕ × Input)). IsKept l now.inputs.items now.visits.items (deque_capacity now.visits) now.lost) (sym (inputs-said told c.args.viewer c.args.input.now))
    (input-kept (inputs_told told) c.args.self.now.inputs.items c.keep_input-kept.new.self.inputs.items c.count_lost.new.self.inputs.items c.args.self.now.visits.items c.count_lost.new.self.visits.items _ _
    c.args.self.now.lost c.keep_input-kept.new.self.lost c.count_lost.new.self.lost (c.args.viewer, c.args.input.now)
    c.keep_input-kept.result c.is_ok.result c.is_ok.ensures.value c.keep_input-kept.ensures.kept c.keep_input-kept.ensures.refused c.keep_input-kept.ensures.lost (ap (λ v. v.items) c.count_lost.ensures.inputs) c.count_lost.ensures.kept c.count_lost.ensures.lost
    (ap (λ v. v.items) c.count_lost.ensures.visits ∙ ap (λ v. v.items) c.keep_input-kept.ensures.visits) (ap (λ v. deque_capacity v) c.count_lost.ensures.visits ∙ ap (λ v. deque_capacity v) c.keep_input-kept.ensures.visits) h)

pub returns-clause-kept : goal.returns-clause-kept
returns-clause-kept c =
    input-put c.args.self.now.inputs.items c.keep_input-kept.new.self.inputs.items c.count_lost.new.self.inputs.items c.args.self.now.text_room c.keep_input-kept.new.self.text_room c.count_lost.new.self.text_room
    c.args.self.now.lost c.keep_input-kept.new.self.lost c.count_lost.new.self.lost (c.args.viewer, c.args.input.now)
    c.keep_input-kept.result c.is_ok.result c.is_ok.ensures.value c.keep_input-kept.ensures.kept c.keep_input-kept.ensures.room c.keep_input-kept.ensures.refused c.keep_input-kept.ensures.same
    c.keep_input-kept.ensures.lost (ap (λ v. v.items) c.count_lost.ensures.inputs) c.count_lost.ensures.text_room c.count_lost.ensures.kept c.count_lost.ensures.lost

pub returns-clause-full : goal.returns-clause-full
returns-clause-full c = λ none fits.
    input-fits c.args.self.now.inputs.items c.keep_input-kept.new.self.inputs.items c.count_lost.new.self.inputs.items (deque_len c.args.self.now.inputs) (deque_capacity c.args.self.now.inputs) (c.args.viewer, c.args.input.now)
    c.keep_input-kept.result c.keep_input-kept.ensures.kept c.keep_input-kept.ensures.full (ap (λ v. v.items) c.count_lost.ensures.inputs) none fits
