use Rattle.std.proofs.Common.{sym, ap}
use Rattle.std.specs.Prelude.{is_some}
use Rattle.viewer_list.proofs.ListLemmas.{viewer-some, viewer-absent}
use Rattle.viewer_list.proofs.ViewerList.has.Goals as goal

pub returns-in-Some : goal.returns-in-Some
returns-in-Some c = sym (ap is_some (viewer-some c.args.self.now c.self.inside.log.items c.self.inside.viewers.pairs _ c.args.number _ c.self.view_is c.in-Some.ensures))

pub returns-in-None : goal.returns-in-None
returns-in-None c = sym (ap is_some (viewer-absent c.args.self.now c.self.inside.log.items c.self.inside.viewers.pairs _ c.args.number c.self.view_is c.in-None.ensures))
