use Rattle.replay.proofs.RedactedTexts.{secrets_are_not_written-holds}
use Rattle.replay.proofs.laws.secrets_are_not_written.Goals as goal

pub returns : goal.returns
returns c = secrets_are_not_written-holds
