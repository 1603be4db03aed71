use Rattle.std.proofs.Common.{sym, ◌∙◌}
use Rattle.client_list.proofs.NumberLemmas.{value_found}
use Rattle.client_list.proofs.Clients.get.Goals as goal

pub returns-in-Some : goal.returns-in-Some
returns-in-Some g c = sym c.at.ensures ∙ value_found c.args.self.now c.in-Some.position c.args.number c.in-Some.ensures.found
