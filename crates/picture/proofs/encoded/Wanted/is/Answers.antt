use Rattle.std.proofs.Common.{◌∙◌, sym}
use Rattle.picture.proofs.SharedLemmas.{same_rects}
use Rattle.picture.proofs.encoded.Wanted.is.Goals as goal

pub returns-then-eq-2-clause-rects : goal.returns-then-eq-2-clause-rects
returns-then-eq-2-clause-rects c = λ e. sym c.deref.ensures.value ∙ same_rects c.deref.result.now c.args.rects.now c.are_same.result c.are_same.ensures e
