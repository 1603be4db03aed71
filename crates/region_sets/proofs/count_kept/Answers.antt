use Rattle.std.proofs.Common.{◌≡◌, ◌∙◌, ap, to_z, of_z, arith}
use Rattle.std.specs.Int.{w32}
use Rattle.std.proofs.lemmas.Int.{ints}
use Rattle.region_bands.specs.Bands.{Reading}
use Rattle.region_sets.proofs.StayLemmas.{from_firsts}
use Rattle.region_sets.proofs.CountLemmas.{counting_begins, counting_more, counting_fewer, counting_done}
use Rattle.region_sets.proofs.count_kept.Goals as goal

pub loop-strip-init : goal.loop-strip-init
loop-strip-init c =
    let y = to_z w32 (of_z w32 c.bands_start-top.result) in
    let same : y ≡ c.bands_start-top.result = omega (arith, ints) in
    counting_begins c.args.keep c.skip_row.new.reader c.skip_row-2.new.reader c.args.first.now c.args.second.now y c.first_rows.result c.first_rows-2.result c.requires.first c.requires.second c.requires.first_left c.requires.second_left
    (ap (λ (u : Reading). u.left) c.skip_row.ensures) (ap (λ (u : Reading). u.left) c.skip_row-2.ensures) c.first_rows.ensures c.first_rows-2.ensures (same ∙ c.bands_start-top.ensures) (omega (arith, ints))

pub loop-strip-smaller : goal.loop-strip-smaller
loop-strip-smaller c =
    let y = to_z w32 c.loop-strip.top-bits in
    let bottom = to_z w32 (of_z w32 c.in-Some.strip.bottom) in
    let same : bottom ≡ c.in-Some.strip.bottom = omega (arith, ints) in
    let found = from_firsts y c.loop-strip.first.bands c.loop-strip.second.bands c.first_rows-in-loop-strip.result c.first_rows-in-loop-strip-2.result c.next_strip.result _ c.first_rows-in-loop-strip.ensures c.first_rows-in-loop-strip-2.ensures c.next_strip.ensures c.in-Some.is in
    counting_fewer c.args.keep c.args.first.now c.args.second.now c.loop-strip.above_first c.loop-strip.above_second c.loop-strip.first c.loop-strip.second y c.loop-strip.count c.loop-strip.invariant c.in-Some.strip found
    c.enter_strip.new.reader c.enter_strip-in-Some.new.reader c.enter_strip.ensures c.enter_strip-in-Some.ensures bottom same c.leave_strip.new.reader c.leave_strip-in-Some.new.reader c.leave_strip.ensures c.leave_strip-in-Some.ensures

pub loop-strip-preserved : goal.loop-strip-preserved
loop-strip-preserved c =
    let y = to_z w32 c.loop-strip.top-bits in
    let bottom = to_z w32 (of_z w32 c.in-Some.strip.bottom) in
    let same : bottom ≡ c.in-Some.strip.bottom = omega (arith, ints) in
    let found = from_firsts y c.loop-strip.first.bands c.loop-strip.second.bands c.first_rows-in-loop-strip.result c.first_rows-in-loop-strip-2.result c.next_strip.result _ c.first_rows-in-loop-strip.ensures c.first_rows-in-loop-strip-2.ensures c.next_strip.ensures c.in-Some.is in
    counting_more c.args.keep c.args.first.now c.args.second.now c.loop-strip.above_first c.loop-strip.above_second c.loop-strip.first c.loop-strip.second y c.loop-strip.count c.loop-strip.invariant c.in-Some.strip found
    c.enter_strip.new.reader c.enter_strip-in-Some.new.reader c.enter_strip.ensures c.enter_strip-in-Some.ensures bottom same c.leave_strip.new.reader c.leave_strip-in-Some.new.reader c.leave_strip.ensures c.leave_strip-in-Some.ensures
    c.again-above_first-in-Some.result c.again-above_second-in-Some.result c.again-above_first-in-Some.ensures c.again-above_second-in-Some.ensures c.count_strip-count.result c.count_strip-count.ensures.count c.count_strip-count.ensures.few

pub returns : goal.returns
returns c =
    let y = to_z w32 c.loop-strip.top-bits in
    let found = from_firsts y c.loop-strip.first.bands c.loop-strip.second.bands c.first_rows-in-loop-strip.result c.first_rows-in-loop-strip-2.result c.next_strip.result _ c.first_rows-in-loop-strip.ensures c.first_rows-in-loop-strip-2.ensures c.next_strip.ensures c.in_default.is in
    record { count = counting_done c.args.keep c.args.first.now c.args.second.now c.loop-strip.above_first c.loop-strip.above_second c.loop-strip.first c.loop-strip.second y c.loop-strip.count c.loop-strip.invariant found }
