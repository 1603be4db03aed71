use Rattle.std.proofs.Common.{◌∙◌, sym, ap}
use Rattle.viewer_list.specs.Viewers.{Viewers}
use Rattle.viewer_list.specs.Lagging.{seen}
use Rattle.viewer_list.proofs.ListLemmas.{seen-none}
use Rattle.viewer_list.proofs.ViewerList.is_empty.Goals as goal

pub returns : goal.returns
returns c =
    let log = c.self.inside.log.items in (
      λ yes. sym (ap (λ (s : Viewers). s.pairs) c.self.view_is) ∙ ap (seen log) (c.is_empty.ensures.0 yes),
      λ none. c.is_empty.ensures.1 (seen-none log c.self.inside.viewers.pairs (ap (λ (s : Viewers). s.pairs) c.self.view_is ∙ none)),
    )
