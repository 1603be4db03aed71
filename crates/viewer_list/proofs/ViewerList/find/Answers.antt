use Rattle.std.proofs.Common.{◌∙◌}
use Rattle.viewer_list.proofs.ListLemmas.{viewer-found}
use Rattle.viewer_list.proofs.ViewerList.find.Goals as goal

pub returns-clause-found : goal.returns-clause-found
returns-clause-found c = c.find.ensures.found ∙ viewer-found c.args.self.now c.self.inside.log.items c.self.inside.viewers.pairs _ c.args.number c.self.view_is
