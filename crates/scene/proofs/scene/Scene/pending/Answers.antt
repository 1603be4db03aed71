use Rattle.std.proofs.Common.{sym, ap, ◌∙◌, Ok, Err, ◌≡◌}
use Rattle.scene.specs.declared.Event.TheVariants.{Cut}
use Rattle.scene.specs.declared.ScreenError.TheVariants as refusals
use Rattle.viewer_list.specs.Viewers.{is_pending}
use Rattle.scene.specs.Answers.{answer_to}
use Rattle.scene.specs.Alone.{at_size, something_to_send}
use Rattle.scene.specs.Consistent.{IsSized}
use Rattle.scene.proofs.Kept.{all-at}
use Rattle.scene.proofs.Framed.{pending-on}
use Rattle.scene.proofs.Connected.{viewer_numbered}
use Rattle.scene.proofs.Found.{mapped-some, mapped-none}
use Rattle.scene.proofs.Calls.{at_config, none_there, answer-absent_cut, cut-answer, some-sent}
use Rattle.scene.proofs.scene.Scene.pending.Goals as goal

pub returns-in_default-clause-answer : goal.returns-in_default-clause-answer
returns-in_default-clause-answer c = λ config list h.
    let here = c.self.inside in
    let away = mapped-none is_pending (viewer_numbered here.viewers.pairs c.args.number) c.in_default.ensures in
    at_config (λ k. Err refusals.NoViewer ≡ something_to_send (answer_to k list (Cut c.args.number))) here.config config here.picture here.viewers.pairs list (c.self.view_is ∙ h) (λ k.
    sym (ap something_to_send (answer-absent_cut here.config list c.args.number (none_there here.config list here.picture here.viewers.pairs c.args.number k away))))

pub returns-clause-answer : goal.returns-clause-answer
returns-clause-answer c = λ config list h.
    let here = c.self.inside in
    let there = mapped-some is_pending (viewer_numbered here.viewers.pairs c.args.number) c.in-Some.pending c.in-Some.ensures in
    at_config (λ k. Ok c.in-Some.pending ≡ something_to_send (answer_to k list (Cut c.args.number))) here.config config here.picture here.viewers.pairs list (c.self.view_is ∙ h) (λ k.
    ap (λ t. Ok t) (there.2 ∙ pending-on here.picture there.0 (all-at (IsSized (at_size here.picture here.config)) here.viewers.pairs c.args.number there.0 c.self.invariant.sized there.1)
    ∙ sym (some-sent here.picture.width here.picture.height here.config.rects_per_update here.picture.colours there.0))
    ∙ sym (ap something_to_send (cut-answer here.config list here.picture here.viewers.pairs c.args.number there.0 k there.1)))
