use Rattle.std.proofs.Common.{arith}
use Rattle.client_list.proofs.CallLemmas.{shows, first_is, is_listed, slot_is_position, slot_passed}
use Rattle.client_list.proofs.Clients.first.Goals as goal

pub returns-clause-first : goal.returns-clause-first
returns-clause-first g c = first_is c.self.inside.nodes c.self.inside.first c.self.inside.last c.args.self.now (shows c.self.inside.nodes c.self.inside.first c.self.inside.last c.args.self.now c.self.invariant.0 c.self.view_is)

pub returns-clause-position : goal.returns-clause-position
returns-clause-position g c = slot_is_position c.args.self.now 0 c.self.inside.first (first_is c.self.inside.nodes c.self.inside.first c.self.inside.last c.args.self.now (shows c.self.inside.nodes c.self.inside.first c.self.inside.last c.args.self.now c.self.invariant.0 c.self.view_is))

pub returns-clause-passed : goal.returns-clause-passed
returns-clause-passed g c = slot_passed c.args.self.now 0 c.self.inside.first (is_listed c.self.inside.nodes c.self.inside.first c.self.inside.last c.args.self.now (shows c.self.inside.nodes c.self.inside.first c.self.inside.last c.args.self.now c.self.invariant.0 c.self.view_is)) (omega arith) (first_is c.self.inside.nodes c.self.inside.first c.self.inside.last c.args.self.now (shows c.self.inside.nodes c.self.inside.first c.self.inside.last c.args.self.now c.self.invariant.0 c.self.view_is))

pub returns-clause-listed : goal.returns-clause-listed
returns-clause-listed g c = is_listed c.self.inside.nodes c.self.inside.first c.self.inside.last c.args.self.now (shows c.self.inside.nodes c.self.inside.first c.self.inside.last c.args.self.now c.self.invariant.0 c.self.view_is)
