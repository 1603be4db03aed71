use Rattle.play_script.proofs.ClaimLemmas.{bytes_are_read_again, viewer_is_read}
use Rattle.play_script.proofs.laws.printed_is_read.Goals as goal

pub returns-clause-bytes : goal.returns-clause-bytes
returns-clause-bytes c = bytes_are_read_again

pub returns-clause-viewers : goal.returns-clause-viewers
returns-clause-viewers c = viewer_is_read
