use Rattle.std.proofs.Common.{rules}
use Rattle.c_server.proofs.Taking.{takes}
use Rattle.c_server.proofs.desk.ServerDesk.update_from.Goals as goal

pub returns : goal.returns
returns c = takes c.drawn_is_served.ensures _ _ c.in-Some.events _ _ _ c.in-Ok.source _ _ c.take.result _ _ _ _ _ _ _ _ _ _ _ _ (search rules) c.self.view_is c.in-Some.is c.canvas.ensures.value c.in-Ok.ensures.accepted c.in-Ok.ensures.source c.places_code.ensures c.take.ensures.recorded c.take.ensures.drawn c.take.ensures.noticed
