use Rattle.std.proofs.Common.{◌≡◌, sym, subst, OnOk}
use Rattle.viewer_list.specs.declared.lagging.Lagging.{Lagging}
use Rattle.viewer_list.proofs.LagLemmas.{brought_up_is, brought_up_stays}
use Rattle.viewer_list.proofs.lagging.Lagging.bring_up.Goals as goal

pub returns-then-self-least-clause-ok : goal.returns-then-self-least-clause-ok
returns-then-self-least-clause-ok c = sym (brought_up_stays c.args.log.now c.args.least c.args.self.now c.if-self-least.true)

pub returns-clause-ok : goal.returns-clause-ok
returns-clause-ok c =
    subst (λ (l : Lagging). OnOk c.catch_up_sharing.result (c.catch_up_sharing.new.self ≡ l)) (sym (brought_up_is c.args.log.now c.args.least c.args.self.now c.if-self-least.false)) c.catch_up_sharing.ensures.ok
