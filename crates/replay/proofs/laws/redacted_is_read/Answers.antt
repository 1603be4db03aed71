use Rattle.replay.proofs.RedactedTexts.{redacted_is_read-holds}
use Rattle.replay.proofs.laws.redacted_is_read.Goals as goal

pub returns : goal.returns
returns c = redacted_is_read-holds
