use Rattle.encode_raw.proofs.ReadBack.{reads_back}
use Rattle.encode_raw.proofs.raw_is_read_back.Goals as goal

pub returns : goal.returns
returns c = reads_back
