use Rattle.encode_rre.proofs.ReadBack.{reads_back}
use Rattle.encode_rre.proofs.rre_is_read_back.Goals as goal

pub returns : goal.returns
returns c = reads_back c.raw_is_read_back.ensures
