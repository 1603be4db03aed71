use Rattle.std.proofs.Common.{◌≡◌, ◌∙◌, ap}
use Rattle.region.specs.Region.{in_rect, on_screen}
use Rattle.updates.specs.declared.sizes.Size.{Size}
use Rattle.viewer.specs.ViewerStates.{viewer_in}
use Rattle.viewer.specs.Viewer.{in_view}
use Rattle.viewer.proofs.SizeLemmas.{same_resized}
use Rattle.viewer.proofs.viewer.Viewer.prepare_resize.Goals as goal

pub returns : goal.returns
returns c =
    let view : in_rect c.whole.result ≡ in_view c.args.width c.args.height (viewer_in c.self.inside) =
    c.whole.ensures ∙ ap (λ (s : Size). on_screen s.width s.height) c.view_by-view.ensures in
    rw (← c.self.view_is) (same_resized c.prepare_resize.result c.from.result c.args.width c.from-2.result c.args.height (in_rect c.whole.result) (in_view c.args.width c.args.height (viewer_in c.self.inside)) c.self.inside.marks
    c.from.ensures c.from-2.ensures view c.prepare_resize.ensures)
