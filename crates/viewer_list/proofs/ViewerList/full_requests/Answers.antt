use Rattle.std.proofs.Common.{◌∙◌, sym, ap, Some, ℕ}
use Rattle.std.specs.Option.{option_map}
use Rattle.viewer.specs.Viewer.{KeptViewer}
use Rattle.viewer_list.proofs.ListLemmas.{viewer-some, viewer-absent}
use Rattle.viewer_list.proofs.ViewerList.full_requests.Goals as goal

pub returns-in-Some : goal.returns-in-Some
returns-in-Some c = ap (λ (n : ℕ). Some n) c.full_requests.ensures ∙ sym (ap (option_map (λ (v : KeptViewer). v.full_requests)) (viewer-some c.args.self.now c.self.inside.log.items c.self.inside.viewers.pairs _ c.args.number c.in-Some.lagging.now c.self.view_is c.in-Some.ensures))

pub returns-in-None : goal.returns-in-None
returns-in-None c = sym (ap (option_map (λ (v : KeptViewer). v.full_requests)) (viewer-absent c.args.self.now c.self.inside.log.items c.self.inside.viewers.pairs _ c.args.number c.self.view_is c.in-None.ensures))
