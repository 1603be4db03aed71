use Rattle.play_script.proofs.ClaimLemmas.{events_answered}
use Rattle.play_script.proofs.laws.answers_are_printed.Goals as goal

pub returns : goal.returns
returns c = events_answered
