use Rattle.std.proofs.Common.{◌≡◌, ◌++◌, take, drop}
use Rattle.scene.specs.Answers.{answers, answers_after}
use Rattle.screen.specs.State.{state}
use Rattle.screen.proofs.runs.run.Given as goal

-- the screen holds what it should after the events so far, and the answers so far and those to what is left are those to all
abbrev pub invariant-loop-event : goal.invariant-loop-event
invariant-loop-event l = record {
  holds : l.screen ≡ state l.fn.config (take l.event-index l.events);
  given : l.given.items ++ answers_after l.fn.config (take l.event-index l.events) (drop l.event-index l.events) ≡ answers l.fn.config l.events;
}
