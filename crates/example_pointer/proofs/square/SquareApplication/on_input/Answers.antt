use Rattle.example_pointer.proofs.Squares.{moved-more}
use Rattle.example_pointer.proofs.square.SquareApplication.on_input.Goals as goal

pub returns : goal.returns
returns g c = λ inputs was. moved-more c.args.self.now c.moved.result inputs c.args.told.now c.moved.ensures was
