use Rattle.std.proofs.Common.{◌∙◌, ℕ, sym, ap, subst, List, All}
use Rattle.std.specs.Map.{values_of}
use Rattle.client_list.specs.Connected.{changed}
use Rattle.updates.specs.declared.notices.Notice.TheVariants as notice
use Rattle.viewer_list.specs.declared.lagging.Lagging.{Lagging}
use Rattle.viewer_list.specs.Lagging.{seen, Fits}
use Rattle.viewer_list.specs.Viewers.{Viewers, viewer_noticed}
use Rattle.viewer_list.proofs.ListLemmas.{seen-noticed, fit-noticed}
use Rattle.viewer_list.proofs.ViewerList.ring.Goals as goal

pub invariant_of-self : goal.invariant_of-self
invariant_of-self c = record {
  short = c.self.invariant.short;
  each = subst (λ (ps : List (ℕ × Lagging)). All (Fits c.self.inside.log.items) (values_of ps)) (sym c.ring_all.ensures) (fit-noticed c.self.inside.log.items notice.Bell c.self.inside.viewers.pairs c.self.invariant.each);
}

pub returns : goal.returns
returns c =
    ap (seen c.self.inside.log.items) c.ring_all.ensures ∙ seen-noticed c.self.inside.log.items notice.Bell c.self.inside.viewers.pairs
    ∙ ap (λ (s : Viewers). changed (viewer_noticed notice.Bell) s.pairs) c.self.view_is
