use Rattle.std.proofs.Common.{◌∙◌, sym, ap, Some, Bool}
use Rattle.std.specs.Option.{option_map}
use Rattle.viewer.specs.Viewer.{is_asking}
use Rattle.viewer_list.proofs.LagLemmas.{asking-logged}
use Rattle.viewer_list.proofs.ListLemmas.{viewer-some, viewer-absent}
use Rattle.viewer_list.proofs.ViewerList.is_asking.Goals as goal

pub returns-in-Some : goal.returns-in-Some
returns-in-Some c =
    ap (λ (b : Bool). Some b) (c.is_asking.ensures ∙ asking-logged c.self.inside.log.items c.in-Some.lagging.now)
    ∙ sym (ap (option_map is_asking) (viewer-some c.args.self.now c.self.inside.log.items c.self.inside.viewers.pairs _ c.args.number c.in-Some.lagging.now c.self.view_is c.in-Some.ensures))

pub returns-in-None : goal.returns-in-None
returns-in-None c = sym (ap (option_map is_asking) (viewer-absent c.args.self.now c.self.inside.log.items c.self.inside.viewers.pairs _ c.args.number c.self.view_is c.in-None.ensures))
