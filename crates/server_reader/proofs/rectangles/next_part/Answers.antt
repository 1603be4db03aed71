use Rattle.server_reader.proofs.rectangles.next_part.Goals as goal

pub returns-then-left-eq0-clause-on : goal.returns-then-left-eq0-clause-on
returns-then-left-eq0-clause-on c size on = c.next_rectangle.ensures.on size
