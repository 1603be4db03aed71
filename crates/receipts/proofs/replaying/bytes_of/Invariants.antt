use Rattle.std.proofs.Common.{◌≡◌, ◌++◌, take, drop}
use Rattle.std.specs.Prelude.{flat_map}
use Rattle.scene.specs.Answers.{own, scene_after, answers, answers_after}
use Rattle.receipts.proofs.replaying.bytes_of.Given as goal

-- the screen holds what it should after the viewer's own events so far, and the bytes so far and those of what is left are all
abbrev pub invariant-loop-event : goal.invariant-loop-event
invariant-loop-event l = record {
  holds : l.scene ≡ scene_after l.fn.config (own l.viewer (take l.event-index l.history));
  given : l.sent.items ++ flat_map (λ a. a.bytes) (answers_after l.fn.config (own l.viewer (take l.event-index l.history)) (own l.viewer (drop l.event-index l.history))) ≡ flat_map (λ a. a.bytes) (answers l.fn.config (own l.viewer l.history));
}
