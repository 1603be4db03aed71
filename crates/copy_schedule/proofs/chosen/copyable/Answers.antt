use Rattle.copy_schedule.specs.SetLemmas.{asked_copies}
use Rattle.copy_schedule.proofs.chosen.copyable.Goals as goal

pub returns : goal.returns
returns c = asked_copies c.args.copied.now.list c.args.asked.now.list c.in_ok-sources.sources.list c.in_ok-both.both.list c.in_ok-all.all.list c.args.offset.0 c.args.offset.1 c.requires.copied c.in_ok-sources.ensures c.in_ok-both.ensures c.in_ok-all.ensures
