use Rattle.std.proofs.Common.{◌≡◌, ◌∙◌, ap, to_z, of_z, arith}
use Rattle.std.specs.Int.{w32}
use Rattle.std.proofs.lemmas.Int.{ints}
use Rattle.region_bands.specs.declared.Rows.{Rows}
use Rattle.region_sets.specs.RoomLemmas.{count_begins, count_row_a, count_row_b, count_fewer, count_more, count_done}
use Rattle.region_sets.proofs.counts.count_room.Goals as goal

pub loop-strip-init : goal.loop-strip-init
loop-strip-init c =
    let y = to_z w32 (of_z w32 c.bands_start-top.result) in
    let same : y ≡ c.bands_start-top.result = omega (arith, ints) in
    count_begins c.args.keep c.args.first.now c.args.second.now y c.first_rows.result c.first_rows-2.result c.requires.first c.requires.second c.requires.first_left c.requires.second_left
    c.first_rows.ensures c.first_rows-2.ensures (same ∙ c.bands_start-top.ensures) (omega (arith, ints))

pub count_strip_room-count-requires-clause-first_row : goal.count_strip_room-count-requires-clause-first_row
count_strip_room-count-requires-clause-first_row c =
    let y = to_z w32 c.loop-strip.top-bits in
    count_row_a c.args.keep c.args.first.now c.args.second.now c.loop-strip.first c.loop-strip.second y c.loop-strip.count c.loop-strip.invariant c.first_rows-in-loop-strip.result c.first_rows-in-loop-strip-2.result c.strip_to_count.result
    c.first_rows-in-loop-strip.ensures c.first_rows-in-loop-strip-2.ensures c.strip_to_count.ensures

pub count_strip_room-count-requires-clause-second_row : goal.count_strip_room-count-requires-clause-second_row
count_strip_room-count-requires-clause-second_row c =
    let y = to_z w32 c.loop-strip.top-bits in
    count_row_b c.args.keep c.args.first.now c.args.second.now c.loop-strip.first c.loop-strip.second y c.loop-strip.count c.loop-strip.invariant c.first_rows-in-loop-strip.result c.first_rows-in-loop-strip-2.result c.strip_to_count.result
    c.first_rows-in-loop-strip.ensures c.first_rows-in-loop-strip-2.ensures c.strip_to_count.ensures

pub loop-strip-smaller : goal.loop-strip-smaller
loop-strip-smaller c =
    let y = to_z w32 c.loop-strip.top-bits in
    let bottom = to_z w32 (of_z w32 c.in-Some.strip.bottom) in
    let same : bottom ≡ c.in-Some.strip.bottom = omega (arith, ints) in
    count_fewer c.args.keep c.args.first.now c.args.second.now c.loop-strip.first c.loop-strip.second y c.loop-strip.count c.loop-strip.invariant c.first_rows-in-loop-strip.result c.first_rows-in-loop-strip-2.result c.strip_to_count.result
    c.first_rows-in-loop-strip.ensures c.first_rows-in-loop-strip-2.ensures c.strip_to_count.ensures c.in-Some.strip c.in-Some.is bottom same c.leave_strip.new.reader c.leave_strip-in-Some.new.reader c.leave_strip.ensures c.leave_strip-in-Some.ensures

pub loop-strip-preserved : goal.loop-strip-preserved
loop-strip-preserved c =
    let y = to_z w32 c.loop-strip.top-bits in
    let bottom = to_z w32 (of_z w32 c.in-Some.strip.bottom) in
    let same : bottom ≡ c.in-Some.strip.bottom = omega (arith, ints) in
    let rows : Rows = record { top = y; bottom = bottom } in
    count_more c.args.keep c.args.first.now c.args.second.now c.loop-strip.first c.loop-strip.second y c.loop-strip.count c.loop-strip.invariant c.first_rows-in-loop-strip.result c.first_rows-in-loop-strip-2.result c.strip_to_count.result
    c.first_rows-in-loop-strip.ensures c.first_rows-in-loop-strip-2.ensures c.strip_to_count.ensures c.in-Some.strip c.in-Some.is bottom same c.leave_strip.new.reader c.leave_strip-in-Some.new.reader c.leave_strip.ensures c.leave_strip-in-Some.ensures
    rows (ap (λ n. record { top = y; bottom = n }) same) c.count_strip_room-count.result c.count_strip_room-count.ensures.room c.count_strip_room-count.ensures.few

pub returns : goal.returns
returns c =
    let y = to_z w32 c.loop-strip.top-bits in
    count_done c.args.keep c.args.first.now c.args.second.now c.loop-strip.first c.loop-strip.second y c.loop-strip.count c.loop-strip.invariant c.first_rows-in-loop-strip.result c.first_rows-in-loop-strip-2.result c.strip_to_count.result
    c.first_rows-in-loop-strip.ensures c.first_rows-in-loop-strip-2.ensures c.strip_to_count.ensures c.in_default.is
