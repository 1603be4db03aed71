use Rattle.redaction.proofs.Scenes.{redacted_is_answered_alike-holds}
use Rattle.redaction.proofs.laws.redacted_is_answered_alike.Goals as goal

pub returns : goal.returns
returns c = redacted_is_answered_alike-holds
