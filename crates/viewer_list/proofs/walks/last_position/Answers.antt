use Rattle.std.proofs.Common.{◌∙◌}
use Rattle.std.specs.Map.{values_of}
use Rattle.viewer_list.proofs.ListLemmas.{last-step, last-end, last-is_within}
use Rattle.viewer_list.proofs.walks.last_position.Goals as goal

pub loop-position-preserved : goal.loop-position-preserved
loop-position-preserved c = record {
  position = c.next-position.ensures.position;
  last = c.later-last.ensures ∙ last-step c.args.viewers.now c.args.end c.loop-position.last c.loop-position.position c.next-position.result c.in-Some.at c.at.result.now c.loop-position.invariant.last c.in-Some.is c.at.ensures c.next-position.ensures.passed;
}

pub returns : goal.returns
returns c =
    let last = last-end c.args.viewers.now c.args.end c.loop-position.last c.loop-position.position c.first-position.ensures.listed c.loop-position.invariant.last c.in_default.is in
    record { last = last; within = last-is_within c.args.viewers.now c.args.end c.loop-position.last (values_of c.args.viewers.now.pairs) last }
