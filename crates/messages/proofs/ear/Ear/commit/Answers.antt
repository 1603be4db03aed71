use Rattle.std.proofs.Common.{ap, sym, ◌∙◌}
use Rattle.messages.specs.Partial.{rest_in, progress_of}
use Rattle.messages.specs.Progress.{text_goes_on}
use Rattle.messages.proofs.Arms.{text_lacks}
use Rattle.messages.proofs.Feeding.{can_take}
use Rattle.messages.proofs.ear.Ear.commit.Goals as goal

pub invariant_of-self-in-Text : goal.invariant_of-self-in-Text
invariant_of-self-in-Text c =
    text_lacks c.in-Text.text c.take.new.self c.deref.result.now c.take.ensures
    (can_take c.args.self.now c.args.change c.self.inside.phase c.in-Text.text c.deref.result.now
    (sym c.self.view_is ∙ ap (rest_in c.self.inside.phase) c.in-Text.is)
    (sym c.change.view_is ∙ ap progress_of c.in-TextGoesOn.is ∙ ap text_goes_on (ap (λ v. v.items) (sym c.in-TextGoesOn.bytes-is) ∙ sym c.deref.ensures.value)) c.requires)
