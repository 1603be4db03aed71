use Rattle.std.proofs.Common.{arith}
use Rattle.updates.proofs.RunLemmas.{front_is_run}
use Rattle.updates.proofs.colours.Colours.piece_from.Goals as goal

pub returns-clause-part : goal.returns-clause-part
returns-clause-part c =
    front_is_run c.args.self.now c.run_from-run.result.now c.args.done c.min.result (omega (arith, c.min.ensures)) c.run_from-run.ensures.part
