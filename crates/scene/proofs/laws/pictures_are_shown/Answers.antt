use Rattle.scene.proofs.Shown.{pictures-shown}
use Rattle.scene.proofs.laws.pictures_are_shown.Goals as goal

pub returns : goal.returns
returns c = pictures-shown c.rectangles_are_read.ensures
