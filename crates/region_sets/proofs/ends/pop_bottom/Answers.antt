use Rattle.std.proofs.Common.{◌∙◌, arith}
use Rattle.region_sets.proofs.EndLemmas.{no_last, at_last, some_below, some_interval, bottom_taken}
use Rattle.region_sets.proofs.ends.pop_bottom.Goals as goal

pub returns-in_err-rows-clause-none : goal.returns-in_err-rows-clause-none
returns-in_err-rows-clause-none c = λ _. no_last c.args.bands.now c.wind.new.self c.last_rows.result c.wind.ensures c.last_rows.ensures c.in_err-rows.was

pub take_end-columns-requires : goal.take_end-columns-requires
take_end-columns-requires c =
    let at = at_last c.args.bands.now c.wind.new.self c.retreat.new.self c.last_rows.result c.in_ok-rows.rows c.wind.ensures c.last_rows.ensures c.in_ok-rows.was c.retreat.ensures in
    record { band = some_below c.args.bands.now c.retreat.new.self c.in_ok-rows.rows c.requires at; interval = some_interval c.args.bands.now c.retreat.new.self c.in_ok-rows.rows c.requires at }

pub mend_bottom-requires : goal.mend_bottom-requires
mend_bottom-requires c =
    let at = at_last c.args.bands.now c.wind.new.self c.retreat.new.self c.last_rows.result c.in_ok-rows.rows c.wind.ensures c.last_rows.ensures c.in_ok-rows.was c.retreat.ensures in
    let t = bottom_taken c.args.reverse_x c.args.bands.now c.retreat.new.self c.take_end-columns.new.bands c.in_ok-rows.rows c.take_end-columns.result c.requires at c.take_end-columns.ensures.interval c.take_end-columns.ensures.taken in
    record { above = t.above; order = t.order; band = t.band; left = t.left; changed = t.changed }

pub returns-clause-popped : goal.returns-clause-popped
returns-clause-popped c =
    let at = at_last c.args.bands.now c.wind.new.self c.retreat.new.self c.last_rows.result c.in_ok-rows.rows c.wind.ensures c.last_rows.ensures c.in_ok-rows.was c.retreat.ensures in
    let t = bottom_taken c.args.reverse_x c.args.bands.now c.retreat.new.self c.take_end-columns.new.bands c.in_ok-rows.rows c.take_end-columns.result c.requires at c.take_end-columns.ensures.interval c.take_end-columns.ensures.taken in
    t.popped

pub returns-clause-taken : goal.returns-clause-taken
returns-clause-taken c =
    let at = at_last c.args.bands.now c.wind.new.self c.retreat.new.self c.last_rows.result c.in_ok-rows.rows c.wind.ensures c.last_rows.ensures c.in_ok-rows.was c.retreat.ensures in
    let t = bottom_taken c.args.reverse_x c.args.bands.now c.retreat.new.self c.take_end-columns.new.bands c.in_ok-rows.rows c.take_end-columns.result c.requires at c.take_end-columns.ensures.interval c.take_end-columns.ensures.taken in
    record { are_bands = c.mend_bottom.ensures.are_bands; has = λ x y. c.mend_bottom.ensures.has x y ∙ t.has x y }

pub returns-clause-row : goal.returns-clause-row
returns-clause-row c =
    let at = at_last c.args.bands.now c.wind.new.self c.retreat.new.self c.last_rows.result c.in_ok-rows.rows c.wind.ensures c.last_rows.ensures c.in_ok-rows.was c.retreat.ensures in
    let t = bottom_taken c.args.reverse_x c.args.bands.now c.retreat.new.self c.take_end-columns.new.bands c.in_ok-rows.rows c.take_end-columns.result c.requires at c.take_end-columns.ensures.interval c.take_end-columns.ensures.taken in
    c.mend_bottom.ensures.row ∙ t.row

pub returns-clause-spare : goal.returns-clause-spare
returns-clause-spare c =
    let at = at_last c.args.bands.now c.wind.new.self c.retreat.new.self c.last_rows.result c.in_ok-rows.rows c.wind.ensures c.last_rows.ensures c.in_ok-rows.was c.retreat.ensures in
    let t = bottom_taken c.args.reverse_x c.args.bands.now c.retreat.new.self c.take_end-columns.new.bands c.in_ok-rows.rows c.take_end-columns.result c.requires at c.take_end-columns.ensures.interval c.take_end-columns.ensures.taken in
    omega (arith, t.spare, c.mend_bottom.ensures.spare)
