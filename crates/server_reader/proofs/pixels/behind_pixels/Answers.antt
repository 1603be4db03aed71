use Rattle.server_reader.proofs.pixels.behind_pixels.Goals as goal

pub returns-in-Rectangles-clause-on : goal.returns-in-Rectangles-clause-on
returns-in-Rectangles-clause-on c size on = c.next_rectangle.ensures.on size
