use Rattle.subrectangles.proofs.RowsAsPixels.{room_of}
use Rattle.subrectangles.proofs.translated.Pixels.row.Goals as goal

pub returns-in-Some-clause-len : goal.returns-in-Some-clause-len
returns-in-Some-clause-len c = rw c.in-Some.is at (room_of c.args.self.now c.args.y c.args.places.now c.requires.inside c.requires.has)
