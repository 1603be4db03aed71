use Rattle.server_reader.proofs.tiles.behind_raw_tile.Goals as goal

pub returns-clause-on : goal.returns-clause-on
returns-clause-on c size on = c.behind_tile.ensures.on size on
