use Rattle.std.proofs.Common.{refl}
use Rattle.server_reader.proofs.OnLemmas.{turn_on}
use Rattle.server_reader.proofs.tiles.part_turn.Goals as goal

pub returns-clause-on : goal.returns-clause-on
returns-clause-on c on = turn_on c.args.size c.next_part-stage.result _ _ c.state_at.ensures (c.next_part-stage.ensures.on c.args.size on) (c.part_of-area.ensures.on c.args.size (c.places_of.ensures.on c.args.size on)) refl
