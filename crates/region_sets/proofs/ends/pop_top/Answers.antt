use Rattle.std.proofs.Common.{◌∙◌, arith}
use Rattle.region_sets.proofs.EndLemmas.{top_taken}
use Rattle.region_sets.proofs.ends.pop_top.Goals as goal

pub mend_top-requires : goal.mend_top-requires
mend_top-requires c =
    let t = top_taken c.args.reverse_x c.args.bands.now c.rewind.new.self c.take_end-columns.new.bands c.first_rows.result c.in_ok-rows.rows c.take_end-columns.result c.requires c.rewind.ensures c.first_rows.ensures c.in_ok-rows.was c.take_end-columns.ensures.interval c.take_end-columns.ensures.taken in
    record { above = t.above; band = t.band; left = t.left; changed = t.changed }

pub returns-clause-taken : goal.returns-clause-taken
returns-clause-taken c =
    let t = top_taken c.args.reverse_x c.args.bands.now c.rewind.new.self c.take_end-columns.new.bands c.first_rows.result c.in_ok-rows.rows c.take_end-columns.result c.requires c.rewind.ensures c.first_rows.ensures c.in_ok-rows.was c.take_end-columns.ensures.interval c.take_end-columns.ensures.taken in
    record { are_bands = c.mend_top.ensures.are_bands; has = λ x y. c.mend_top.ensures.has x y ∙ t.has x y }

pub returns-clause-row : goal.returns-clause-row
returns-clause-row c =
    let t = top_taken c.args.reverse_x c.args.bands.now c.rewind.new.self c.take_end-columns.new.bands c.first_rows.result c.in_ok-rows.rows c.take_end-columns.result c.requires c.rewind.ensures c.first_rows.ensures c.in_ok-rows.was c.take_end-columns.ensures.interval c.take_end-columns.ensures.taken in
    c.mend_top.ensures.row ∙ t.row

pub returns-clause-spare : goal.returns-clause-spare
returns-clause-spare c =
    let t = top_taken c.args.reverse_x c.args.bands.now c.rewind.new.self c.take_end-columns.new.bands c.first_rows.result c.in_ok-rows.rows c.take_end-columns.result c.requires c.rewind.ensures c.first_rows.ensures c.in_ok-rows.was c.take_end-columns.ensures.interval c.take_end-columns.ensures.taken in
    omega (arith, t.spare, c.mend_top.ensures.spare)
