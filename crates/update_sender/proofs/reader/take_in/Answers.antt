use Rattle.std.proofs.Common.{ap, ◌∙◌, arith, subst}
use Rattle.held_inputs.specs.Held.{Held}
use Rattle.update_sender.proofs.Putting.{between-frame}
use Rattle.update_sender.proofs.reader.take_in.Goals as goal

pub settle-requires : goal.settle-requires
settle-requires g c = ap (λ s. s.queue) (between-frame _ _ _ _ _ c.put_each.ensures.puts.1) ∙ c.requires

pub returns-clause-puts : goal.returns-clause-puts
returns-clause-puts g c =
    let p = c.put_each.ensures.puts in
    let s = c.settle.ensures.put in
    (p.0, c.put_each.new.seat, s.0, p.1, s.1, omega (arith, p.2, c.saturating_add.ensures))
