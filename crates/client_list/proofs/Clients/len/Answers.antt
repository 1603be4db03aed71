use Rattle.std.proofs.Common.{◌∙◌}
use Rattle.client_list.proofs.CallLemmas.{shows, pairs_counted, positions_counted, is_listed}
use Rattle.client_list.proofs.Clients.len.Goals as goal

pub returns-clause-pairs : goal.returns-clause-pairs
returns-clause-pairs g c = c.len.ensures ∙ pairs_counted c.self.inside.nodes c.self.inside.first c.self.inside.last c.args.self.now (shows c.self.inside.nodes c.self.inside.first c.self.inside.last c.args.self.now c.self.invariant.0 c.self.view_is)

pub returns-clause-positions : goal.returns-clause-positions
returns-clause-positions g c = c.len.ensures ∙ positions_counted c.self.inside.nodes c.self.inside.first c.self.inside.last c.args.self.now (shows c.self.inside.nodes c.self.inside.first c.self.inside.last c.args.self.now c.self.invariant.0 c.self.view_is)

pub returns-clause-listed : goal.returns-clause-listed
returns-clause-listed g c = is_listed c.self.inside.nodes c.self.inside.first c.self.inside.last c.args.self.now (shows c.self.inside.nodes c.self.inside.first c.self.inside.last c.args.self.now c.self.invariant.0 c.self.view_is)
