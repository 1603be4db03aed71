use Rattle.std.specs.Prelude.{◌&&◌}
use Rattle.std.proofs.Common.{◌≡◌, ◌++◌, Option, None, sym, ap, ◌∙◌, rules}
use Rattle.receipts.specs.declared.Ended.{Ended}
use Rattle.viewer.specs.Given.{bytes_given}
use Rattle.connection.specs.Known.{Known}
use Rattle.connections.specs.Drawing.{Surface}
use Rattle.connection.specs.Connection.{ViewerConnection}
use Rattle.connections.proofs.Recorded.{cut-happens, uncut-happens}
use Rattle.connections.proofs.Turns.{turn-cut, turn-uncut, turn-ended}
use Rattle.connections.proofs.turn.cut.Goals as goal

pub returns-in-Ok-Some-clause-turn : goal.returns-in-Ok-Some-clause-turn
returns-in-Ok-Some-clause-turn g c =
    let a = c.args.canvas.now in
    let b = c.cut.new.self in
    turn-cut c.held_as_alone.ensures a b c.args.connection.now c.start.new.self c.number-viewer.result c.in-Ok-Some.update c.number-viewer.ensures c.in-Ok-Some.ensures.step c.in-Ok-Some.ensures.recorded
    (λ config list h. cut-happens config list _ _ _ c.in-Ok-Some.field-0-is c.in-Ok-Some.ensures.some (c.in-Ok-Some.ensures.told config list h))
    (λ config list h. ap bytes_given (sym c.in-Ok-Some.field-0-is) ∙ c.in-Ok-Some.ensures.answer config list h) c.start.ensures.same (c.start.ensures.bytes ∙ ap (λ l. l ++ c.in-Ok-Some.update) (sym c.requires)) (λ few. c.start.ensures.few)
    (ap (λ (x : Surface). x.drawn) c.cut.ensures.same) (ap (λ (x : Surface). x.noticed) c.cut.ensures.same) (ap (λ (k : Known). k.may_cut) c.start.ensures.known ∙ c.is_asking.ensures)
    (ap (λ (k : Known). k.may_ask) c.start.ensures.known ∙ ap (λ b. c.args.connection.now.known.may_ask && b) c.is_asking.ensures)

pub returns-in-Ok-None-clause-turn : goal.returns-in-Ok-None-clause-turn
returns-in-Ok-None-clause-turn g c =
    let e = c.args.connection.now in
    let a = c.args.canvas.now in
    let b = c.cut.new.self in
    turn-uncut a b e c.look.new.self c.number-viewer.result c.number-viewer.ensures c.in-Ok-None.ensures.step c.in-Ok-None.ensures.recorded
    (λ config list h. uncut-happens config list _ _ c.in-Ok-None.field-0-is (c.in-Ok-None.ensures.told config list h))
    (λ config list h. ap bytes_given (sym c.in-Ok-None.field-0-is) ∙ c.in-Ok-None.ensures.answer config list h)
    (c.look.ensures ∙ ap (λ (k : Known). record e { known = k }) (sym (ap (λ (x : ViewerConnection). x.known) c.look.ensures)))
    (ap (λ (x : Surface). x.drawn) c.cut.ensures.same) (ap (λ (x : Surface). x.noticed) c.cut.ensures.same) (ap (λ (x : ViewerConnection). x.known.may_ask) c.look.ensures)

pub returns-in-Err-clause-turn : goal.returns-in-Err-clause-turn
returns-in-Err-clause-turn g c =
    let live : c.args.connection.now.ended ≡ None = search rules in
    let e = c.args.connection.now in
    turn-ended c.args.canvas.now c.cut.new.self e c.end.new.self c.in-Err.ensures.err live
    (c.end.ensures ∙ ap (λ (o : Option Ended). record e { ended = o }) (sym (ap (λ (x : ViewerConnection). x.ended) c.end.ensures)))
