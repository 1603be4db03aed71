use Rattle.std.proofs.Common.{◌≡◌, Ok, Some, refl, sym, ap, ◌∙◌, subst, ◌++◌, false}
use Rattle.std.specs.Prelude.{◌⊎◌}
use Rattle.screen.specs.declared.ScreenError.{ScreenError}
use Rattle.receipts.specs.declared.Ended.TheVariants.{Memory}
use Rattle.connection.specs.Known.{Known}
use Rattle.connections.specs.Drawing.{Surface}
use Rattle.held_inputs.specs.Held.{Held}
use Rattle.connection.specs.Waiting.{Waiting, waiting_bytes, IsFew}
use Rattle.connections.specs.Telling.{said_by, told_behind, IsTold}
use Rattle.connection.specs.Holding.{held_behind}
use Rattle.connection.specs.Connection.{ViewerConnection, breaks_off}
use Rattle.screen.specs.Answers.{answer_to}
use Rattle.screen.specs.declared.Event.TheVariants.{Hear}
use Rattle.connection.specs.Counting.{with_piece}
use Rattle.connection.specs.Reasons.{ended_by_fault}
use Rattle.connections.proofs.Recorded.{heard-happens}
use Rattle.connections.proofs.Turns.{turn-unheard, turn-heard, ended-memory, ended-fault}
use Rattle.connections.proofs.turn.hear.Goals as goal

pub returns-in_default-clause-heard : goal.returns-in_default-clause-heard
returns-in_default-clause-heard g c = turn-unheard {X = Unit {0}} {E = ScreenError} g.A.Application.stands _ (Ok tt) _ _ _ _ c.make_room.new.self.room _ refl (c.end.ensures ∙ ap (λ (e : ViewerConnection). record e { ended = Some Memory }) c.make_room.ensures.same)

pub returns-in_default-clause-fault : goal.returns-in_default-clause-fault
returns-in_default-clause-fault g c = λ config list h. ended-memory _ _ (ap (λ (x : ViewerConnection). x.ended) c.end.ensures)

pub returns-in_default-hear-clause-heard : goal.returns-in_default-hear-clause-heard
returns-in_default-hear-clause-heard g c =
    turn-unheard {X = Unit {0}} {E = ScreenError} g.A.Application.stands _ (Ok tt) _ _ _ _ c.make_room.new.self.room _ c.in_default-hear.ensures.err (c.end-in_default-hear.ensures ∙ ap (λ (e : ViewerConnection). record e { ended = Some Memory }) c.make_room.ensures.same)

pub returns-in_default-hear-clause-fault : goal.returns-in_default-hear-clause-fault
returns-in_default-hear-clause-fault g c = λ config list h. ended-memory _ _ (ap (λ (x : ViewerConnection). x.ended) c.end-in_default-hear.ensures)

pub returns-clause-fault : goal.returns-clause-fault
returns-clause-fault g c = λ config list h.
    ended-fault _ _ c.count_piece.new.self.ended c.tell.new.connection.ended
    (c.in-Ok-hear.ensures.closed config list h ∙ ap (λ n. (answer_to config list (Hear n c.args.piece.now)).closed) c.number-viewer.ensures)
    (subst (λ (x : ViewerConnection). (x.ended ≡ ended_by_fault c.in-Ok-hear.answer.closed c.count_piece.new.self.ended) ⊎ (x.ended ≡ Some Memory)) (sym c.tell.ensures.same) c.give.ensures.ended)

pub returns-clause-heard : goal.returns-clause-heard
returns-clause-heard g c =
    let e = c.args.connection.now in
    let m = c.make_room.new.self in
    let p = c.count_piece.new.self in
    let q = c.give.new.self in
    let f = c.tell.new.connection in
    let bytes = c.as_slice.result.now in
    let inputs = c.as_slice-inputs.result.now in
    let known = ap (λ (x : ViewerConnection). x.known) c.tell.ensures.same ∙ ap (λ (x : ViewerConnection). x.known) c.give.ensures.same ∙ ap (λ (x : ViewerConnection). x.known) c.count_piece.ensures in
    let was : q.held ≡ e.held = ap (λ (x : ViewerConnection). x.held) c.give.ensures.same ∙ ap (λ (x : ViewerConnection). x.held) c.count_piece.ensures ∙ ap (λ (x : ViewerConnection). x.held) c.make_room.ensures.same in
    let holds : f.held ≡ held_behind e.held inputs = c.tell.ensures.held ∙ ap (λ h. held_behind h inputs) was in
    let waiting : p.waiting ≡ e.waiting = ap (λ (x : ViewerConnection). x.waiting) c.count_piece.ensures ∙ ap (λ (x : ViewerConnection). x.waiting) c.make_room.ensures.same in
    let its : q.number ≡ e.number = ap (λ (x : ViewerConnection). x.number) c.give.ensures.same ∙ ap (λ (x : ViewerConnection). x.number) c.count_piece.ensures ∙ ap (λ (x : ViewerConnection). x.number) c.make_room.ensures.same in
    let number : f.number ≡ e.number = ap (λ (x : ViewerConnection). x.number) c.tell.ensures.same ∙ its in
    let carried : f.carried ≡ e.carried =
    ap (λ (x : ViewerConnection). x.carried) c.tell.ensures.same ∙ ap (λ (x : ViewerConnection). x.carried) c.give.ensures.same ∙ ap (λ (x : ViewerConnection). x.carried) c.count_piece.ensures
    ∙ ap (λ (x : ViewerConnection). x.carried) c.make_room.ensures.same in
    let counts : f.counts ≡ with_piece c.args.piece.now e.counts =
    ap (λ (x : ViewerConnection). x.counts) c.tell.ensures.same ∙ ap (λ (x : ViewerConnection). x.counts) c.give.ensures.same ∙ ap (λ (x : ViewerConnection). x.counts) c.count_piece.ensures
    ∙ ap (λ (x : ViewerConnection). with_piece c.args.piece.now x.counts) c.make_room.ensures.same in
    let a = c.args.canvas.now in
    let b = c.hear.new.self in
    let n = c.number-viewer.result in
    turn-heard g.A.Application.stands c.args.application.now c.tell.new.application c.tell.result inputs a b c.tell.new.canvas e f n c.args.piece.now bytes c.number-viewer.ensures
    (ap (λ (x : Surface). x.drawn) c.hear.ensures.same) (ap (λ (x : Surface). x.noticed) c.hear.ensures.same) (ap (λ (k : Known). k.may_cut) known) (ap (λ (k : Known). k.may_ask) known)
    c.in-Ok-hear.ensures.step c.in-Ok-hear.ensures.recorded
    (λ config list h. heard-happens config list _ _ _ (c.in-Ok-hear.ensures.told config list h))
    (λ config list h. c.as_slice.ensures ∙ c.in-Ok-hear.ensures.answer config list h) (λ config list h. c.as_slice-inputs.ensures ∙ c.in-Ok-hear.ensures.inputs config list h)
    number carried counts
    (subst (λ (x : ViewerConnection). breaks_off x.ended ≡ false → waiting_bytes x.waiting ≡ waiting_bytes e.waiting ++ bytes) (sym c.tell.ensures.same)
    (subst (λ (w : Waiting). breaks_off q.ended ≡ false → waiting_bytes q.waiting ≡ waiting_bytes w ++ bytes) waiting c.give.ensures.bytes))
    (subst (λ (x : ViewerConnection). IsFew x.waiting) (sym c.tell.ensures.same) c.give.ensures.few) holds c.tell.ensures.draws
    (subst (λ (h : Held). IsTold g.A.Application.stands (said_by n (told_behind h inputs)) c.args.application.now c.tell.new.application c.tell.result) was
    (subst (λ n. IsTold g.A.Application.stands (said_by n (told_behind q.held inputs)) c.args.application.now c.tell.new.application c.tell.result) (its ∙ sym c.number-viewer.ensures) c.tell.ensures.told))
