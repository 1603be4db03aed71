use Rattle.std.proofs.Common.{◌≡◌, ◌+◌, ◌++◌, take, drop, sym, ap, ◌∙◌}
use Rattle.std.specs.Prelude.{flat_map}
use Rattle.std.proofs.lemmas.List.{append-nil, drop_all}
use Rattle.scene.specs.Answers.{own, scene_after, answers_after}
use Rattle.receipts.proofs.Replayed.{own_taken, own_left, other_taken, other_left, bytes_more, own_are_own}
use Rattle.receipts.proofs.replaying.bytes_of.Goals as goal
use Rattle.receipts.proofs.replaying.bytes_of.Goals.{then-is_own+in_ok-answer+in_ok-extend_from_slice, else-is_own}

pub loop-event-preserved : goal.loop-event-preserved
loop-event-preserved c =
    let config = c.args.config.now in let v = c.args.viewer in let history = c.args.history.now in
    let i = c.loop-event.event-index in let e = c.event-item.result in
    elim c.if-is_own.branch [
      | then-is_own+in_ok-answer+in_ok-extend_from_slice w ↦
          let is_own = sym c.is_own.ensures ∙ w.if-is_own.true in
          let taken = own_taken v history i e c.loop-event-test.true c.event-item.is is_own in
          let left = own_left v history i e c.loop-event-test.true c.event-item.is is_own in
          let front = own v (take i history) in
          let bytes : c.if-is_own.sent.items ≡ c.loop-event.sent.items ++ w.in_ok-answer.answer.bytes =
          ap (λ s. s.items) w.sent-is ∙ w.in_ok-extend_from_slice.ensures.items ∙ ap (λ b. c.loop-event.sent.items ++ b) w.as_slice.ensures in
          record {
            holds = w.scene-is ∙ w.in_ok-answer.ensures.step config front c.loop-event.invariant.holds ∙ ap (scene_after config) (sym taken);
            given =
                ap (λ b. b ++ flat_map (λ a. a.bytes) (answers_after config (own v (take (i + 1) history)) (own v (drop (i + 1) history)))) bytes
                ∙ ap (λ es. c.loop-event.sent.items ++ w.in_ok-answer.answer.bytes ++ flat_map (λ a. a.bytes) (answers_after config es (own v (drop (i + 1) history)))) taken
                ∙ bytes_more config front (own v (drop (i + 1) history)) e w.in_ok-answer.answer c.loop-event.sent.items _ (w.in_ok-answer.ensures.answer config front c.loop-event.invariant.holds)
                (ap (λ es. c.loop-event.sent.items ++ flat_map (λ a. a.bytes) (answers_after config front es)) (sym left) ∙ c.loop-event.invariant.given);
          }
      | else-is_own w ↦
          let is_other = sym c.is_own.ensures ∙ w.if-is_own.false in
          let taken = other_taken v history i e c.loop-event-test.true c.event-item.is is_other in
          let left = other_left v history i e c.loop-event-test.true c.event-item.is is_other in
          record {
            holds = w.scene-is ∙ c.loop-event.invariant.holds ∙ ap (scene_after config) (sym taken);
            given =
                ap (λ s. s.items ++ flat_map (λ a. a.bytes) (answers_after config (own v (take (i + 1) history)) (own v (drop (i + 1) history)))) w.sent-is
                ∙ ap (λ es. c.loop-event.sent.items ++ flat_map (λ a. a.bytes) (answers_after config es (own v (drop (i + 1) history)))) taken
                ∙ ap (λ es. c.loop-event.sent.items ++ flat_map (λ a. a.bytes) (answers_after config (own v (take i history)) es)) (sym left)
                ∙ c.loop-event.invariant.given;
          }
    ]

pub returns : goal.returns
returns c =
    let config = c.args.config.now in let v = c.args.viewer in let history = c.args.history.now in
    let i = c.loop-event.event-index in
    let none = drop_all i history c.loop-event-test.false in
    sym (append-nil c.loop-event.sent.items)
    ∙ ap (λ es. c.loop-event.sent.items ++ flat_map (λ a. a.bytes) (answers_after config (own v (take i history)) (own v es))) (sym none)
    ∙ c.loop-event.invariant.given
    ∙ ap (λ told. flat_map (λ a. a.bytes) told) (c.one_viewer_is_alone.ensures config v (own v history) (own_are_own v history))
