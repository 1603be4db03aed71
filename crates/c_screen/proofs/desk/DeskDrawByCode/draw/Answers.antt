use Rattle.std.proofs.Common.{rules, refl}
use Rattle.c_screen.proofs.Drawing.{draws}
use Rattle.c_screen.proofs.desk.DeskDrawByCode.draw.Goals as goal

pub returns : goal.returns
returns c = draws _ _ _ _ _ _ c.draw.result _ _ _ _ c.self.view_is c.in-Some.is refl (search rules) c.draw.ensures.step c.draw.ensures.refused c.draw.ensures.err
