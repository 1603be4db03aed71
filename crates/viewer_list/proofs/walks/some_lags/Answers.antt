use Rattle.viewer_list.specs.Lagging.{IsCurrent}
use Rattle.viewer_list.proofs.ListLemmas.{all-step, all-end}
use Rattle.viewer_list.proofs.walks.some_lags.Goals as goal

pub loop-position-preserved : goal.loop-position-preserved
loop-position-preserved c = record {
  position = c.next-position.ensures.position;
  current = all-step c.args.viewers.now (IsCurrent c.args.log.now) c.loop-position.position c.next-position.result c.in-Some.at c.at.result.now c.loop-position.invariant.current c.in-Some.is c.at.ensures (c.lags.ensures c.if-lags.false) c.next-position.ensures.passed;
}

pub returns : goal.returns
returns c = λ _. all-end c.args.viewers.now (IsCurrent c.args.log.now) c.loop-position.position c.first-position.ensures.listed c.loop-position.invariant.current c.in_default.is
