use Rattle.std.proofs.Common.{refl, ap, ◌∙◌, inr}
use Rattle.update_sender.proofs.Putting.{behind-one}
use Rattle.update_sender.proofs.reader.put_behind.Goals as goal

pub put_one-requires : goal.put_one-requires
put_one-requires g c = ap (λ s. s.queue) c.settle.ensures.seat ∙ c.requires

pub returns-then-settle-clause-puts : goal.returns-then-settle-clause-puts
returns-then-settle-clause-puts g c = let s = c.settle.ensures.put in behind-one _ c.args.input s.0 _ _ _ _ s.1 (c.settle.ensures.settled c.if-settle.true) c.put_one.ensures.puts

pub returns-else-settle-clause-puts : goal.returns-else-settle-clause-puts
returns-else-settle-clause-puts g c = let s = c.settle.ensures.put in (s.0, c.settle.new.seat, s.1, inr (refl, refl))
