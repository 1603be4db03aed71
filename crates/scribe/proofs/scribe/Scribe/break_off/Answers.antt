use Rattle.std.proofs.Common.{true, take, ap}
use Rattle.scribe.specs.Scribing.{Scribed}
use Rattle.scribe.proofs.Putting.{puts-broken_off}
use Rattle.scribe.proofs.scribe.Scribe.break_off.Goals as goal

pub returns-clause-puts : goal.returns-clause-puts
returns-clause-puts g c = λ more some.
    let t : Scribed = record { held = g.W.Write.contents c.self.inside.writer; waiting = take c.self.inside.used c.self.inside.buffer.items; broken = true } in
    puts-broken_off more c.args.self.now c.flush.new.self t some c.flush.ensures.puts c.flush.ensures.flushed (ap (λ (s : Scribed). record s { broken = true }) c.self.view_is)
