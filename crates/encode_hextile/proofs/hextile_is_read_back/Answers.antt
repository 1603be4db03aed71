use Rattle.encode_hextile.proofs.ReadBack.{reads_back}
use Rattle.encode_hextile.proofs.hextile_is_read_back.Goals as goal

pub returns : goal.returns
returns c = reads_back c.background_is_most_frequent.ensures c.subrectangles_are_all_listed.ensures
