use Rattle.std.proofs.Common.{sym}
use Rattle.play_script.proofs.WordLemmas.{parts_at, parts_whole}
use Rattle.play_script.proofs.words.split_at.Goals as goal

pub returns-in-Some-clause-parts : goal.returns-in-Some-clause-parts
returns-in-Some-clause-parts c = parts_at _ _ _ (sym c.in-Some.ensures)

pub returns-in-None-clause-parts : goal.returns-in-None-clause-parts
returns-in-None-clause-parts c = parts_whole _ _ (sym c.in-None.ensures)
