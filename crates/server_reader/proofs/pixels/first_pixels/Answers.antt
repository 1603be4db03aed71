use Rattle.std.proofs.Common.{ap, ◌∙◌}
use Rattle.server_reader.specs.Stages.{rectangles_behind}
use Rattle.server_reader.proofs.RunLemmas.{raw_begins}
use Rattle.server_reader.proofs.pixels.first_pixels.Goals as goal

pub returns-clause-rest : goal.returns-clause-rest
returns-clause-rest c d bytes =
    c.pixels_of.ensures.rest d bytes ∙ ap (rectangles_behind c.args.rectangle.behind d) (raw_begins c.args.rectangle.area d.shown bytes)

pub returns-clause-on : goal.returns-clause-on
returns-clause-on c size on = c.pixels_of.ensures.on size on tt
