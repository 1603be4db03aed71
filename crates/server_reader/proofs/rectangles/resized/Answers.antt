use Rattle.std.proofs.Common.{refl}
use Rattle.server_reader.proofs.OnLemmas.{turn_on}
use Rattle.server_reader.proofs.rectangles.resized.Goals as goal

pub returns-clause-on : goal.returns-clause-on
returns-clause-on c = turn_on _ c.next_rectangle.result _ _ c.state_at.ensures (c.next_rectangle.ensures.on _) tt refl
