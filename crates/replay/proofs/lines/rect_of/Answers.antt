use Rattle.std.proofs.Common.{arith, pos}
use Rattle.std.proofs.lemmas.Int.{to_z-of_z}
use Rattle.replay.proofs.Corners.{first_rect, behind_first}
use Rattle.replay.proofs.lines.rect_of.Goals as goal

pub returns-clause-rects : goal.returns-clause-rects
returns-clause-rects c = grind (arith, to_z-of_z, first_rect c.args.numbers.now (pos 0) c.requires)

pub returns-clause-behind : goal.returns-clause-behind
returns-clause-behind c = behind_first c.args.numbers.now c.requires
