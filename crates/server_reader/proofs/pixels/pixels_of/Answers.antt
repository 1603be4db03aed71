use Rattle.server_reader.proofs.pixels.pixels_of.Goals as goal

pub returns-then-area-eq0-clause-on : goal.returns-then-area-eq0-clause-on
returns-then-area-eq0-clause-on c size on behind = c.behind_pixels.ensures.on size behind
