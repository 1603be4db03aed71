use Rattle.std.proofs.Common.{sym, arith}
use Rattle.web_stream.proofs.NextLemmas.{fault_asks}
use Rattle.web_stream.proofs.next.next_of.Goals as goal

pub returns-in-Some : goal.returns-in-Some
returns-in-Some c = sym (fault_asks c.args.is_within c.args.kept.now c.in-Some.fault (omega arith) cc)
