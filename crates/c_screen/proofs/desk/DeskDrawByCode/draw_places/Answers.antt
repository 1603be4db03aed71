use Rattle.std.proofs.Common.{rules, refl}
use Rattle.c_screen.specs.PlacesLemmas.{free_places}
use Rattle.c_screen.proofs.Drawing.{draws_places, undrawn_places}
use Rattle.c_screen.proofs.desk.DeskDrawByCode.draw_places.Goals as goal

pub returns-in-Ok : goal.returns-in-Ok
returns-in-Ok c = draws_places _ _ _ _ _ _ _ _ _ refl (search rules) c.with.ensures (free_places c.args.call c.in-Ok.region.list _ c.with.ensures) c.in-Ok.ensures.places c.in-Ok.ensures.accepted c.draw.ensures

pub returns-in-Err : goal.returns-in-Err
returns-in-Err c = undrawn_places _ _ _ _ _ _ _ refl refl (search rules) c.in-Err.ensures.refused
