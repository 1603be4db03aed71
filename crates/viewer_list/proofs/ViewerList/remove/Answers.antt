use Rattle.std.proofs.Common.{◌∙◌, ◌==◌, sym, ap, subst, not}
use Rattle.std.proofs.lemmas.Option.{none-some}
use Rattle.client_list.specs.Connected.{Connected}
use Rattle.viewer_list.specs.declared.lagging.Lagging.{Lagging}
use Rattle.viewer_list.specs.Lagging.{seen, Fits, AllFit}
use Rattle.viewer_list.specs.Viewers.{Viewers}
use Rattle.std.specs.Prelude.{filter}
use Rattle.viewer_list.proofs.ListLemmas.{viewer-some, viewer-absent, all-some, seen-filter}
use Rattle.viewer_list.proofs.ViewerList.remove.Goals as goal
use Rattle.viewer_list.proofs.ViewerList.remove.Goals.{in-Ok, in-Err}

pub invariant_of-self : goal.invariant_of-self
invariant_of-self c = elim c.match-remove.branch [
  | in-Ok w ↦ record {
    short = c.self.invariant.short;
    each = rw w.in-Ok.ensures.others (all-some (Fits c.self.inside.log.items) (λ pair. not (pair.0 == c.args.number)) c.self.inside.viewers.pairs c.self.invariant.each);
  }
  | in-Err w ↦ subst (λ (l : Connected Lagging). AllFit c.self.inside.log.items c.self.inside.joined l.pairs) (sym w.in-Err.ensures.err) c.self.invariant
]

pub returns-clause-ok : goal.returns-clause-ok
returns-clause-ok c = elim c.match-remove.branch [
  | in-Ok w ↦ rw w.result-is (ap (seen c.self.inside.log.items) w.in-Ok.ensures.others ∙ seen-filter c.self.inside.log.items c.args.number c.self.inside.viewers.pairs ∙ ap (λ (s : Viewers). filter (λ pair. not (pair.0 == c.args.number)) s.pairs) c.self.view_is)
  | in-Err w ↦ rw w.result-is tt
]

pub returns-clause-found : goal.returns-clause-found
returns-clause-found c = elim c.match-remove.branch [
  | in-Ok w ↦ rw w.result-is (λ none. absurd (none-some _ (sym none ∙ viewer-some c.args.self.now c.self.inside.log.items c.self.inside.viewers.pairs _ c.args.number _ c.self.view_is (sym w.in-Ok.ensures.value))))
  | in-Err w ↦ rw w.result-is (viewer-absent c.args.self.now c.self.inside.log.items c.self.inside.viewers.pairs _ c.args.number c.self.view_is (sym w.in-Err.ensures.value))
]
