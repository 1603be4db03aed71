use Rattle.scene.proofs.Shown.{maps-there}
use Rattle.scene.proofs.laws.maps_are_there.Goals as goal

pub returns : goal.returns
returns c = maps-there c.rectangles_are_read.ensures
