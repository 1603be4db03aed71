use Rattle.std.proofs.Common.{[], ◌∷◌, ◌+◌, arith}
use Rattle.update_sender.proofs.Putting.{puts-then, puts-frame}
use Rattle.update_sender.proofs.reader.put_all.Goals as goal

pub loop-input-preserved : goal.loop-input-preserved
loop-input-preserved g c =
    let i = c.loop-input.invariant in
    let p = puts-then c.loop-input.yielded (c.in-Some.input ∷ []) c.args.seat.now c.loop-input.seat c.put_one.new.seat i.1 c.put_one.result i.2 c.put_one.ensures.puts in
    (puts-frame _ _ _ _ p, i.1 + c.put_one.result, p, omega (arith, i.3, c.put_one.ensures.few, c.saturating_add-dropped.ensures))
