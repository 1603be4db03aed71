use Rattle.std.proofs.Common.{◌∙◌, sym, ap, Some, Bool}
use Rattle.std.specs.Option.{option_map}
use Rattle.messages.specs.Reading.{is_open_rest}
use Rattle.viewer.specs.Viewer.{KeptViewer}
use Rattle.viewer_list.proofs.ListLemmas.{viewer-some, viewer-absent}
use Rattle.viewer_list.proofs.ViewerList.is_open.Goals as goal

pub returns-in-Some : goal.returns-in-Some
returns-in-Some c = ap (λ (b : Bool). Some b) c.is_open.ensures ∙ sym (ap (option_map (λ (v : KeptViewer). is_open_rest v.heard)) (viewer-some c.args.self.now c.self.inside.log.items c.self.inside.viewers.pairs _ c.args.number c.in-Some.lagging.now c.self.view_is c.in-Some.ensures))

pub returns-in-None : goal.returns-in-None
returns-in-None c = sym (ap (option_map (λ (v : KeptViewer). is_open_rest v.heard)) (viewer-absent c.args.self.now c.self.inside.log.items c.self.inside.viewers.pairs _ c.args.number c.self.view_is c.in-None.ensures))
