use Rattle.replay.proofs.ReadsSound.{accepted_sound}
use Rattle.replay.proofs.laws.accepted_is_sound.Goals as goal

pub returns : goal.returns
returns c = accepted_sound
