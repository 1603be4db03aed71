use Rattle.client_list.proofs.NumberLemmas.{position_read}
use Rattle.client_list.proofs.Clients.position_of.Goals as goal

pub returns-in-Some-clause-position : goal.returns-in-Some-clause-position
returns-in-Some-clause-position g c = position_read c.args.self.now c.in-Some.position c.args.number c.in-Some.ensures.found
