use Rattle.std.proofs.Common.{rules}
use Rattle.c_screen.proofs.Taking.{takes}
use Rattle.c_screen.proofs.desk.Desk.update_from.Goals as goal

pub returns : goal.returns
returns c = takes _ _ c.in-Some.screen _ _ c.in-Ok.source _ _ c.take.result _ _ _ _ _ (search rules) c.self.view_is c.in-Some.is c.in-Ok.ensures.accepted c.in-Ok.ensures.source c.places_code.ensures c.take.ensures.takes
