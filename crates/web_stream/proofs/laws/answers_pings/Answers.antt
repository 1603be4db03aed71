use Rattle.web_stream.proofs.SpelledLemmas.{answers_pings}
use Rattle.web_stream.proofs.laws.answers_pings.Goals as goal

pub returns : goal.returns
returns c = answers_pings
