use Rattle.std.proofs.Common.{refl}
use Rattle.replay.proofs.Feeds.{takes_kept, kept_itself, kept_again}
use Rattle.replay.proofs.reading.take_piece.Goals as goal

pub loop-init : goal.loop-init
loop-init g c = record { kept = kept_itself _; same = refl }

pub loop-preserved : goal.loop-preserved
loop-preserved g c =
    let took = kept_again _ _ _ _ _ _ c.loop.invariant.kept c.loop.invariant.same (rw c.in_default.is at c.in_ok-end.ensures) in
    record { kept = took.0; same = took.1 }

pub returns-in-Some : goal.returns-in-Some
returns-in-Some g c = takes_kept _ _ _ _ _ _ _ c.loop.invariant.kept c.loop.invariant.same (rw c.in-Some.is at c.in_ok-end.ensures)
