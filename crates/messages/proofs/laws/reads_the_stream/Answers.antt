use Rattle.messages.proofs.Running.{reads_the_stream}
use Rattle.messages.proofs.laws.reads_the_stream.Goals as goal

pub returns : goal.returns
returns c = reads_the_stream
