use Rattle.std.proofs.Common.{◌≡◌, ◌∙◌, ap, arith, length-drop}
use Rattle.std.proofs.lemmas.List.{length-take}
use Rattle.messages.specs.declared.reading.Reading.{Reading}
use Rattle.messages.proofs.Short.{request_tells, key_tells, pointer_tells, one_more}
use Rattle.messages.proofs.reading.Reading.short_messages.Goals as goal
use Rattle.messages.proofs.reading.Reading.short_messages.Goals.{in-3+in_ok-push-in-3, in-4+in_ok-push-in-4, in-5+in_ok-push-in-5}

stays : (was here now : Reading) → now ≡ here → (here.phase ≡ was.phase) × (here.partial ≡ was.partial) → (now.phase ≡ was.phase) × (now.partial ≡ was.partial)
stays was here now e h = (ap (λ (r : Reading). r.phase) e ∙ h.0, ap (λ (r : Reading). r.partial) e ∙ h.1)

pub loop-left-preserved : goal.loop-left-preserved
loop-left-preserved c =
    let first = c.args.self.now.items.items in
    let piece = c.args.piece.now in
    let left = c.loop-left.left.now in
    let items = c.loop-left.self.items.items in
    let long = c.loop-left-test.true in
    let same = c.loop-left.invariant.same in
    record {
      same =
          elim c.match-left.branch [
            | in-3+in_ok-push-in-3 w ↦
                one_more first items w.push.new.self.items _ piece left _ 10 (ap (λ (r : Reading). r.items.items) w.self-is) w.used-is same
                (request_tells items w.push.new.self.items w.request.result left long w.in-3.is w.request.ensures w.in_ok-push-in-3.ensures.items)
            | in-4+in_ok-push-in-4 w ↦
                one_more first items w.push-in-4.new.self.items _ piece left _ 8 (ap (λ (r : Reading). r.items.items) w.self-is) w.used-is same
                (key_tells items w.push-in-4.new.self.items w.key.result left long w.in-4.is w.key.ensures w.in_ok-push-in-4.ensures.items)
            | in-5+in_ok-push-in-5 w ↦
                one_more first items w.push-in-5.new.self.items _ piece left _ 6 (ap (λ (r : Reading). r.items.items) w.self-is) w.used-is same
                (pointer_tells items w.push-in-5.new.self.items w.pointer.result left long w.in-5.is w.pointer.ensures w.in_ok-push-in-5.ensures.items)
          ];
      within = simp (length-take, length-drop) (omega (arith, c.loop-left.invariant.within));
      rest =
          elim c.match-left.branch [
            | in-3+in_ok-push-in-3 w ↦ stays c.args.self.now _ _ w.self-is c.loop-left.invariant.rest
            | in-4+in_ok-push-in-4 w ↦ stays c.args.self.now _ _ w.self-is c.loop-left.invariant.rest
            | in-5+in_ok-push-in-5 w ↦ stays c.args.self.now _ _ w.self-is c.loop-left.invariant.rest
          ];
    }
