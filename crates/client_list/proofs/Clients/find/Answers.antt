use Rattle.std.proofs.Common.{sym, ap}
use Rattle.std.specs.Prelude.{is_some}
use Rattle.client_list.proofs.NumberLemmas.{position_value}
use Rattle.client_list.proofs.Clients.find.Goals as goal

pub returns-clause-found : goal.returns-clause-found
returns-clause-found g c =
    let there = position_value c.args.self.now c.args.number c.in-Some.position c.in-Some.ensures.found in
    sym (ap is_some there.1)
