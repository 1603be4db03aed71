use Rattle.updates.proofs.RunLemmas.{some_columns, rest_is_run}
use Rattle.updates.proofs.colours.rest_of_row.Goals as goal

pub returns-clause-part : goal.returns-clause-part
returns-clause-part c =
    let s = c.args.snapshot.now in
    let some = some_columns s.width s.height _ c.args.done c.width-columns.ensures.part.places c.requires in
    let same = c.width-columns.ensures.value in
    rw same (rest_is_run s.width c.args.done s.colours c.row.result.now some (rw same at c.row.ensures))
