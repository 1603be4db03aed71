use Rattle.screen.proofs.runs.kept_is_kept.Goals as goal

pub returns : goal.returns
returns c = c.accepted_happens_again.ensures
