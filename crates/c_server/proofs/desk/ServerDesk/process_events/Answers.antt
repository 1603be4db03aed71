use Rattle.std.proofs.Common.{[], rules}
use Rattle.connections.specs.Telling.{inputs_told}
use Rattle.c_server.specs.Desk.{held_where}
use Rattle.c_server.proofs.Keeping.{nothing-kept}
use Rattle.c_server.proofs.Turning.{inputs-parts, no-turn, none-untold, turns}
use Rattle.c_server.proofs.desk.ServerDesk.process_events.Goals as goal

pub returns-then-is_err : goal.returns-then-is_err
returns-then-is_err c = no-turn _ _ c.in-Some.events _ _ _ _ _ _ _ _ _ _ _ _ _ c.self.view_is c.in-Some.is (search rules) c.make_all_room.ensures.inputs c.make_all_room.ensures.visits

pub returns : goal.returns
returns c =
    turns _ _ c.in-Some.events _ c.process_events-answer.result _ _ _ _ c.make_all_room.new.inputs.items _ c.process_events-answer.new.application.inputs.items _ c.make_all_room.new.visits.items _ c.process_events-answer.new.application.visits.items _ _ _ _ c.process_events-answer.new.application.lost c.keep-kept.result.lost _ _ _ _ _ _
    c.self.view_is c.in-Some.is (search rules)
    (λ config list s.
    let p = c.process_events-answer.ensures.served (held_where _) config list s in
    let k = p.4 [] (nothing-kept c.new-came.result.inputs.items c.new-came.result.visits.items _ _ c.new-came.result.lost c.new-came.ensures.inputs c.new-came.ensures.visits c.new-came.ensures.lost c.new-came.ensures.room (search rules)) in
    (p.0, p.1, (inputs_told k.0, inputs_told k.1, inputs-parts config list p.0 p.2 k.0 k.1 p.3.said k.2, none-untold c.process_events-answer.result k.1 k.3, k.4)))
    c.make_all_room.ensures.inputs c.make_all_room.ensures.visits c.keep-kept.ensures.inputs c.keep-kept.ensures.lost c.keep-kept.ensures.room c.keep-kept.ensures.visits c.saturating_add-self-inside-2.ensures (search rules) (search rules)
