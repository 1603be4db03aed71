use Rattle.std.proofs.Common.{◌∙◌, ℕ, sym, ap, subst, List, All}
use Rattle.std.specs.Map.{values_of}
use Rattle.client_list.specs.Connected.{Connected, changed, passed, index_of, set_value_at}
use Rattle.client_list.specs.WalkLemmas.{walk_value, keys-changed, change_step, change_end}
use Rattle.viewer_list.specs.declared.lagging.Lagging.{Lagging}
use Rattle.viewer_list.specs.Lagging.{brought_up, seen, Fits}
use Rattle.viewer_list.proofs.LagLemmas.{brought_up_fits}
use Rattle.viewer_list.proofs.ListLemmas.{all-at, all-partly, all-changed, seen-partly, seen-brought_up, set-at-same}
use Rattle.viewer_list.proofs.walks.catch_up_from.Goals as goal

pub bring_up-requires-clause-fits : goal.bring_up-requires-clause-fits
bring_up-requires-clause-fits c =
    let log = c.args.log.now in
    let start : Connected Lagging = c.args.viewers.now in
    all-at (Fits log) start.pairs (index_of start.positions c.in-Some.at) c.at_mut.result.now c.requires
    (sym (walk_value start (changed (brought_up log c.args.least) start.pairs) c.loop-position.viewers c.loop-position.position c.in-Some.at (keys-changed (brought_up log c.args.least) start.pairs) c.loop-position.invariant.walk c.in-Some.is) ∙ c.at_mut.ensures.value)

pub returns-in_err-bring_up-clause-same : goal.returns-in_err-bring_up-clause-same
returns-in_err-bring_up-clause-same c =
    let log = c.args.log.now in
    let start : Connected Lagging = c.args.viewers.now in
    let now : Connected Lagging = c.loop-position.viewers in
    let i : ℕ = index_of now.positions c.in-Some.at in
    ap (seen log) (ap (set_value_at now.pairs i) c.in_err-bring_up.ensures.err ∙ set-at-same now.pairs i c.at_mut.result.now c.at_mut.ensures.value ∙ c.loop-position.invariant.walk.pairs)
    ∙ seen-partly log c.args.least start.pairs (passed now c.loop-position.position)

pub returns-in_err-bring_up-clause-fits : goal.returns-in_err-bring_up-clause-fits
returns-in_err-bring_up-clause-fits c =
    let log = c.args.log.now in
    let start : Connected Lagging = c.args.viewers.now in
    let now : Connected Lagging = c.loop-position.viewers in
    let i : ℕ = index_of now.positions c.in-Some.at in
    subst (λ (ps : List (ℕ × Lagging)). All (Fits log) (values_of ps))
    (sym (ap (set_value_at now.pairs i) c.in_err-bring_up.ensures.err ∙ set-at-same now.pairs i c.at_mut.result.now c.at_mut.ensures.value ∙ c.loop-position.invariant.walk.pairs))
    (all-partly (Fits log) (brought_up log c.args.least) (brought_up_fits log c.args.least) start.pairs (passed now c.loop-position.position) c.requires)

pub loop-position-preserved : goal.loop-position-preserved
loop-position-preserved c = record {
  walk = change_step (brought_up c.args.log.now c.args.least) c.args.viewers.now c.loop-position.viewers c.loop-position.position c.next-position.result c.in-Some.at c.at_mut.result.now c.bring_up.new.self c.loop-position.invariant.walk c.in-Some.is c.at_mut.ensures.value
      c.in_ok-bring_up.ensures.ok c.next-position.ensures.position c.next-position.ensures.passed;
  shared = c.bring_up.ensures.shared;
}

pub returns-clause-same : goal.returns-clause-same
returns-clause-same c =
    let log = c.args.log.now in
    let start : Connected Lagging = c.args.viewers.now in
    ap (seen log) (change_end (brought_up log c.args.least) start c.loop-position.viewers c.loop-position.position c.first-position.ensures.listed c.loop-position.invariant.walk c.in_default.is) ∙ seen-brought_up log c.args.least start.pairs c.requires

pub returns-clause-fits : goal.returns-clause-fits
returns-clause-fits c =
    let log = c.args.log.now in
    let start : Connected Lagging = c.args.viewers.now in
    subst (λ (ps : List (ℕ × Lagging)). All (Fits log) (values_of ps))
    (sym (change_end (brought_up log c.args.least) start c.loop-position.viewers c.loop-position.position c.first-position.ensures.listed c.loop-position.invariant.walk c.in_default.is))
    (all-changed (Fits log) (Fits log) (brought_up log c.args.least) (brought_up_fits log c.args.least) start.pairs c.requires)
