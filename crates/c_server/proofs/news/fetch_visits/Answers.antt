use Rattle.std.proofs.Common.{rules, arith}
use Rattle.c_server.proofs.Waiting.{one-fetched}
use Rattle.c_server.proofs.news.fetch_visits.Goals as goal

pub loop-count-preserved : goal.loop-count-preserved
loop-count-preserved c =
    let more = one-fetched c.args.waiting.now.items c.loop-count.waiting.items c.pop_front.new.self.items c.args.room.now c.loop-count.room c.loop-count.count c.in-Some.visit c.loop-count.invariant.rest c.in-Some.ensures.items c.loop-count.invariant.room (omega (c.loop-count-test.true, c.loop-count.invariant.size, arith)) in
    record { rest = more.0; room = more.1; size = search rules; few = more.2 }
