use Rattle.std.proofs.Common.{inl, inr}
use Rattle.screen.specs.State.{viewer_at}
use Rattle.update_sender.proofs.Refused.{not-there}
use Rattle.update_sender.proofs.locked_screen.LockedScreen.part.Goals as goal

pub returns-in-Ok-clause-parts : goal.returns-in-Ok-clause-parts
returns-in-Ok-clause-parts g c = inl c.in-Ok.ensures.step

pub returns-in-Err-NoViewer-clause-parts : goal.returns-in-Err-NoViewer-clause-parts
returns-in-Err-NoViewer-clause-parts g c =
    inr (c.in-Err-NoViewer.ensures.err, not-there c.in-Err-NoViewer.field-0 (viewer_at c.args.self.now.screen c.args.number) c.in-Err-NoViewer.field-0-is c.in-Err-NoViewer.ensures.refused)
