use Rattle.source_picture.proofs.LawLemmas.{law}
use Rattle.source_picture.proofs.laws.mirrors_as_the_rfc.Goals as goal

pub returns : goal.returns
returns c = law c.reads_as_the_rfc.ensures
