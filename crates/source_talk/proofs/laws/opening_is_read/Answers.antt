use Rattle.source_talk.proofs.Read.{reads_openings}
use Rattle.source_talk.proofs.laws.opening_is_read.Goals as goal

pub returns : goal.returns
returns c = reads_openings
