use Rattle.std.proofs.Common.{rules}
use Rattle.c_server.proofs.DrawingLemmas.{draws, drawing_own}
use Rattle.c_server.proofs.drawing.ServerDeskDrawByCode.draw.Goals as goal

pub returns : goal.returns
returns c = draws c.drawn_is_served.ensures _ _ c.in-Some.events _ _ _ c.draw.result _ _ _ _ _ _ _ _ _ _ _ _ (search rules) c.self.view_is c.in-Some.is c.canvas.ensures.value (drawing_own c.args.drawing.now) c.done_or.ensures.done c.done_or.ensures.answers c.draw.ensures.step c.draw.ensures.recorded c.draw.ensures.unrecorded c.draw.ensures.refused c.draw.ensures.err c.draw.ensures.noted
