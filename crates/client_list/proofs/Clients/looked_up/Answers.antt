use Rattle.std.proofs.Common.{subst, ◌∙◌}
use Rattle.client_list.specs.Links.{IsByNumber}
use Rattle.client_list.proofs.CallLemmas.{shows, is_listed}
use Rattle.client_list.proofs.ByNumberLemmas.{found_by_number}
use Rattle.client_list.proofs.Clients.looked_up.Goals as goal

pub returns-clause-found : goal.returns-clause-found
returns-clause-found g c = found_by_number c.self.inside.by_number c.args.self.now (subst (IsByNumber c.self.inside.by_number) c.self.view_is c.self.invariant.1) c.args.number c.copied.result (is_listed c.self.inside.nodes c.self.inside.first c.self.inside.last c.args.self.now (shows c.self.inside.nodes c.self.inside.first c.self.inside.last c.args.self.now c.self.invariant.0 c.self.view_is)) (c.copied.ensures ∙ c.get.ensures.value)

pub returns-clause-listed : goal.returns-clause-listed
returns-clause-listed g c = is_listed c.self.inside.nodes c.self.inside.first c.self.inside.last c.args.self.now (shows c.self.inside.nodes c.self.inside.first c.self.inside.last c.args.self.now c.self.invariant.0 c.self.view_is)
