use Rattle.server_reader.proofs.tiles.next_part.Goals as goal

pub returns-clause-on : goal.returns-clause-on
returns-clause-on c size on = c.behind_tile.ensures.on size on
