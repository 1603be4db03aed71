use Rattle.std.proofs.Common.{take, rules}
use Rattle.update_sender.proofs.Served.{written-out}
use Rattle.update_sender.proofs.line.Speaker.write.Goals as goal

pub returns-clause-sent : goal.returns-clause-sent
returns-clause-sent g c = (take c.put_on-done.result c.args.bytes.now, c.put_on-done.ensures.bytes, search rules, written-out c.all_written.result c.args.bytes.now c.put_on-done.result c.all_written.ensures)
