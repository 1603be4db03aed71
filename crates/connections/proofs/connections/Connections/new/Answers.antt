use Rattle.std.proofs.Common.{[]}
use Rattle.connections.specs.RecordedLemmas.{none-recorded}
use Rattle.connections.proofs.connections.Connections.new.Goals as goal

pub returns-clause-serves : goal.returns-clause-serves
returns-clause-serves g c = λ began none. c.with.ensures.serves began (none-recorded began.held c.args.config [] _ none)
