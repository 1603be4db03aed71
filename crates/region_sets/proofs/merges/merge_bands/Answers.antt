use Rattle.std.proofs.Common.{◌≡◌, ◌∙◌, ap, to_z, of_z, arith}
use Rattle.std.specs.Int.{w32}
use Rattle.std.proofs.lemmas.Int.{ints}
use Rattle.region_bands.specs.declared.Rows.{Rows}
use Rattle.region_sets.proofs.StayLemmas.{from_firsts}
use Rattle.region_sets.proofs.MergeLemmas.{merging_begins, merging_done, merging_fewer, merging_more}
use Rattle.region_sets.proofs.merges.merge_bands.Goals as goal

pub loop-strip-init : goal.loop-strip-init
loop-strip-init c =
    let y = to_z w32 (of_z w32 c.bands_start-top.result) in
    let same : y ≡ c.bands_start-top.result = omega (arith, ints) in
    merging_begins c.args.keep c.args.first.now c.args.second.now c.args.bands.now y c.first_rows.result c.first_rows-2.result c.requires.bands c.requires.first c.requires.second c.requires.first_left c.requires.second_left
    c.first_rows.ensures c.first_rows-2.ensures (same ∙ c.bands_start-top.ensures)

pub loop-strip-smaller : goal.loop-strip-smaller
loop-strip-smaller c =
    let y = to_z w32 c.loop-strip.top-bits in
    let bottom = to_z w32 (of_z w32 c.in-Some.strip.bottom) in
    let same : bottom ≡ c.in-Some.strip.bottom = omega (arith, ints) in
    let found = from_firsts y c.loop-strip.first.bands c.loop-strip.second.bands c.first_rows-in-loop-strip.result c.first_rows-in-loop-strip-2.result c.next_strip.result _ c.first_rows-in-loop-strip.ensures c.first_rows-in-loop-strip-2.ensures c.next_strip.ensures c.in-Some.is in
    merging_fewer c.args.keep c.args.first.now c.args.second.now c.loop-strip.first c.loop-strip.second c.loop-strip.bands y c.loop-strip.invariant c.in-Some.strip found
    c.enter_strip.new.reader c.enter_strip-in-Some.new.reader c.enter_strip.ensures c.enter_strip-in-Some.ensures c.merge_strip.new.first c.merge_strip.new.second c.leave_strip.new.reader c.leave_strip-in-Some.new.reader
    c.in_ok-merge_strip.ensures.first_read c.in_ok-merge_strip.ensures.second_read bottom same c.leave_strip.ensures c.leave_strip-in-Some.ensures

pub loop-strip-preserved : goal.loop-strip-preserved
loop-strip-preserved c =
    let y = to_z w32 c.loop-strip.top-bits in
    let bottom = to_z w32 (of_z w32 c.in-Some.strip.bottom) in
    let same : bottom ≡ c.in-Some.strip.bottom = omega (arith, ints) in
    let rows : Rows = record { top = y; bottom = bottom } in
    let found = from_firsts y c.loop-strip.first.bands c.loop-strip.second.bands c.first_rows-in-loop-strip.result c.first_rows-in-loop-strip-2.result c.next_strip.result _ c.first_rows-in-loop-strip.ensures c.first_rows-in-loop-strip-2.ensures c.next_strip.ensures c.in-Some.is in
    merging_more c.args.keep c.args.first.now c.args.second.now c.loop-strip.first c.loop-strip.second c.loop-strip.bands y c.loop-strip.invariant c.in-Some.strip found
    c.enter_strip.new.reader c.enter_strip-in-Some.new.reader c.enter_strip.ensures c.enter_strip-in-Some.ensures c.merge_strip.new.first c.merge_strip.new.second c.leave_strip.new.reader c.leave_strip-in-Some.new.reader
    c.in_ok-merge_strip.ensures.first_read c.in_ok-merge_strip.ensures.second_read bottom same c.leave_strip.ensures c.leave_strip-in-Some.ensures
    rows c.merge_strip.new.bands (ap (λ n. record { top = y; bottom = n }) same) c.in_ok-merge_strip.ensures.are_bands c.in_ok-merge_strip.ensures.ends c.in_ok-merge_strip.ensures.has c.in_ok-merge_strip.ensures.same

pub returns-clause-kept : goal.returns-clause-kept
returns-clause-kept c =
    let y = to_z w32 c.loop-strip.top-bits in
    let found = from_firsts y c.loop-strip.first.bands c.loop-strip.second.bands c.first_rows-in-loop-strip.result c.first_rows-in-loop-strip-2.result c.next_strip.result _ c.first_rows-in-loop-strip.ensures c.first_rows-in-loop-strip-2.ensures c.next_strip.ensures c.in_default.is in
    merging_done c.args.keep c.args.first.now c.args.second.now c.loop-strip.first c.loop-strip.second c.loop-strip.bands y c.loop-strip.invariant found
