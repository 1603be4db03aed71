use Rattle.server_reader.proofs.ReadingLemmas.{reads_as_the_rfc}
use Rattle.server_reader.proofs.laws.reads_as_the_rfc.Goals as goal

pub returns : goal.returns
returns c = reads_as_the_rfc
