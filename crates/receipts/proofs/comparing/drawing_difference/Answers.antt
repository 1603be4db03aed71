use Rattle.std.proofs.Common.{drop, sym, ap, ◌∙◌}
use Rattle.std.proofs.lemmas.List.{drop_all}
use Rattle.scene.specs.declared.Event.TheVariants.{Bell}
use Rattle.scene.specs.History.{drawings}
use Rattle.receipts.specs.Differences.{difference, same_event}
use Rattle.receipts.proofs.Differing.{later, ended}
use Rattle.receipts.proofs.comparing.drawing_difference.Goals as goal

pub returns-then-at-drawn-2 : goal.returns-then-at-drawn-2
returns-then-at-drawn-2 c =
    let at = c.loop-event.at in let drawn = c.args.drawn.now in let history = c.args.history.now in
    let none = drop_all c.loop-event.event-index history c.loop-event-test.false in
    sym (ended same_event at at drawn Bell c.if-at-drawn-2.true) ∙ ap (λ es. later at (difference same_event (drawings es) (drop at drawn))) (sym none) ∙ c.loop-event.invariant.rest
