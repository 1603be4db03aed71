use Rattle.std.proofs.Common.{◌∙◌, ℕ, sym, ap, subst, List, [], All, arith}
use Rattle.std.specs.Map.{values_of}
use Rattle.client_list.specs.Connected.{changed}
use Rattle.viewer.specs.Viewer.{viewer_resized}
use Rattle.viewer_list.specs.declared.lagging.Lagging.{Lagging}
use Rattle.viewer_list.specs.Lagging.{seen, Fits}
use Rattle.viewer_list.specs.Viewers.{Viewers}
use Rattle.viewer_list.proofs.ListLemmas.{seen-resized, fit-resized}
use Rattle.viewer_list.proofs.ViewerList.resize.Goals as goal

pub invariant_of-self : goal.invariant_of-self
invariant_of-self c = rw c.clear.ensures.items (record {
  short = record { within = omega arith; few = omega arith; others = omega arith };
  each = subst (λ (ps : List (ℕ × Lagging)). All (Fits []) (values_of ps)) (sym c.resize_all.ensures) (fit-resized c.args.width c.args.height c.self.inside.viewers.pairs);
})

pub returns-clause-ok : goal.returns-clause-ok
returns-clause-ok c = rw c.clear.ensures.items (
    ap (seen []) c.resize_all.ensures ∙ seen-resized c.self.inside.log.items c.args.width c.args.height c.self.inside.viewers.pairs
    ∙ ap (λ (s : Viewers). changed (viewer_resized c.args.width c.args.height) s.pairs) c.self.view_is)
