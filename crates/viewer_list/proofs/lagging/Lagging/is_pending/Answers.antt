use Rattle.std.proofs.Common.{◌∙◌}
use Rattle.viewer_list.proofs.LagLemmas.{pending-logged}
use Rattle.viewer_list.specs.Lagging.{waiting}
use Rattle.viewer_list.proofs.lagging.Lagging.is_pending.Goals as goal

pub returns : goal.returns
returns c = (rw c.lacked.ensures at c.is_pending_after.ensures) ∙ pending-logged (waiting c.args.log.now c.args.self.now) c.args.self.now.viewer
