use Rattle.region_sets.proofs.CopyLemmas.{copied_begins, copied_more, copied_done}
use Rattle.region_sets.proofs.edits.copy_bands.Goals as goal

pub loop-rows-init : goal.loop-rows-init
loop-rows-init c = copied_begins c.args.to.now c.args.from.now c.requires.row c.requires.left

pub loop-rows-smaller : goal.loop-rows-smaller
loop-rows-smaller c = (copied_more c.args.to.now c.loop-rows.to c.args.from.now c.loop-rows.from c.loop-rows.invariant c.first_rows.result c.first_rows.ensures c.in-Some.rows c.copy_other.new.bands c.put_row.new.self c.copy_other.new.other c.advance.new.self c.in-Some.is
    c.copy_other.ensures.spare c.copy_other.ensures.copied c.copy_other.ensures.read c.put_row.ensures.spare c.put_row.ensures.band c.advance.ensures).1

pub loop-rows-preserved : goal.loop-rows-preserved
loop-rows-preserved c = (copied_more c.args.to.now c.loop-rows.to c.args.from.now c.loop-rows.from c.loop-rows.invariant c.first_rows.result c.first_rows.ensures c.in-Some.rows c.copy_other.new.bands c.put_row.new.self c.copy_other.new.other c.advance.new.self c.in-Some.is
    c.copy_other.ensures.spare c.copy_other.ensures.copied c.copy_other.ensures.read c.put_row.ensures.spare c.put_row.ensures.band c.advance.ensures).0

pub returns : goal.returns
returns c =
    let all = copied_done c.args.to.now c.loop-rows.to c.args.from.now c.loop-rows.from c.loop-rows.invariant c.first_rows.result c.first_rows.ensures c.in_default.is in
    record { copied = all.0; spare = all.1; read = all.2 }
