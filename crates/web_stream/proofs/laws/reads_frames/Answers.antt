use Rattle.web_stream.proofs.SpelledLemmas.{reads_frames}
use Rattle.web_stream.proofs.laws.reads_frames.Goals as goal

pub returns : goal.returns
returns c = reads_frames
