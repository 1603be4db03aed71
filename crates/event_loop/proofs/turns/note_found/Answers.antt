use Rattle.event_loop.proofs.Steps.{on-then}
use Rattle.event_loop.proofs.turns.note_found.Goals as goal

pub returns-in_err-note : goal.returns-in_err-note
returns-in_err-note c = record { served = on-then _ _ _ c.loop-event.invariant c.note.ensures.served }

pub loop-event-preserved : goal.loop-event-preserved
loop-event-preserved c = on-then _ _ _ c.loop-event.invariant c.note.ensures.served
