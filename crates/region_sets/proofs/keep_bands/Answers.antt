use Rattle.std.proofs.Common.{◌≡◌, ◌∙◌, ap, to_z, of_z, arith}
use Rattle.std.specs.Prelude.{◌<ℤ◌}
use Rattle.std.specs.Int.{w32}
use Rattle.std.proofs.lemmas.Int.{ints}
use Rattle.region_bands.specs.declared.Rows.{Rows}
use Rattle.region_sets.proofs.StayLemmas.{kept_begins, strip_at, strip_room, kept_more, kept_fewer, kept_done, kept_spare}
use Rattle.region_sets.proofs.keep_bands.Goals as goal

pub loop-strip-init : goal.loop-strip-init
loop-strip-init c =
    let y = to_z w32 (of_z w32 c.bands_start-top.result) in
    let same : y ≡ c.bands_start-top.result = omega (arith, ints) in
    kept_begins c.args.keep c.args.bands.now c.args.other.now y c.first_rows.result c.first_rows-2.result c.requires.gap c.requires.first c.requires.second c.requires.first_left c.requires.second_left c.requires.room
    c.first_rows.ensures c.first_rows-2.ensures (same ∙ c.bands_start-top.ensures)

pub keep_next-requires-clause-some : goal.keep_next-requires-clause-some
keep_next-requires-clause-some c =
    let y = to_z w32 c.loop-strip.top-bits in
    let bottom = to_z w32 (of_z w32 c.in-Some.strip.bottom) in
    let same : bottom ≡ c.in-Some.strip.bottom = omega (arith, ints) in
    let found = c.strip_to_keep.ensures.some c.in-Some.strip c.in-Some.is in
    let after : y <ℤ c.in-Some.strip.bottom = (strip_at c.args.keep c.args.bands.now c.loop-strip.bands c.args.other.now c.loop-strip.other y c.loop-strip.invariant c.in-Some.strip found).edge_a.after in
    omega (arith, ints, after, same)

pub keep_next-requires-clause-room : goal.keep_next-requires-clause-room
keep_next-requires-clause-room c =
    let y = to_z w32 c.loop-strip.top-bits in
    let bottom = to_z w32 (of_z w32 c.in-Some.strip.bottom) in
    let same : bottom ≡ c.in-Some.strip.bottom = omega (arith, ints) in
    let rows : Rows = record { top = y; bottom = bottom } in
    let found = c.strip_to_keep.ensures.some c.in-Some.strip c.in-Some.is in
    strip_room c.args.keep c.args.bands.now c.loop-strip.bands c.args.other.now c.loop-strip.other y c.loop-strip.invariant c.requires.first c.requires.second c.in-Some.strip rows found (ap (λ n. record { top = y; bottom = n }) same)

pub loop-strip-smaller : goal.loop-strip-smaller
loop-strip-smaller c =
    let y = to_z w32 c.loop-strip.top-bits in
    let bottom = to_z w32 (of_z w32 c.in-Some.strip.bottom) in
    let same : bottom ≡ c.in-Some.strip.bottom = omega (arith, ints) in
    let rows : Rows = record { top = y; bottom = bottom } in
    let found = c.strip_to_keep.ensures.some c.in-Some.strip c.in-Some.is in
    kept_fewer c.args.keep c.args.bands.now c.loop-strip.bands c.args.other.now c.loop-strip.other y c.loop-strip.invariant c.in-Some.strip rows c.keep_next.new.bands c.keep_next.new.other c.pass_ended.new.reader bottom found same same
    c.keep_next.ensures.same c.keep_next.ensures.read c.pass_ended.ensures

pub loop-strip-preserved : goal.loop-strip-preserved
loop-strip-preserved c =
    let y = to_z w32 c.loop-strip.top-bits in
    let bottom = to_z w32 (of_z w32 c.in-Some.strip.bottom) in
    let same : bottom ≡ c.in-Some.strip.bottom = omega (arith, ints) in
    let rows : Rows = record { top = y; bottom = bottom } in
    let found = c.strip_to_keep.ensures.some c.in-Some.strip c.in-Some.is in
    kept_more c.args.keep c.args.bands.now c.loop-strip.bands c.args.other.now c.loop-strip.other y c.loop-strip.invariant c.in-Some.strip rows c.keep_next.new.bands c.keep_next.new.other c.pass_ended.new.reader bottom found
    (ap (λ n. record { top = y; bottom = n }) same) same c.keep_next.ensures.are_bands c.keep_next.ensures.ends c.keep_next.ensures.has c.keep_next.ensures.spare c.keep_next.ensures.same c.keep_next.ensures.read c.pass_ended.ensures

pub returns-clause-kept : goal.returns-clause-kept
returns-clause-kept c =
    let y = to_z w32 c.loop-strip.top-bits in
    kept_done c.args.keep c.args.bands.now c.loop-strip.bands c.args.other.now c.loop-strip.other y c.loop-strip.invariant (c.strip_to_keep.ensures.none c.in_default.is)

pub returns-clause-spare : goal.returns-clause-spare
returns-clause-spare c =
    let y = to_z w32 c.loop-strip.top-bits in
    kept_spare c.args.keep c.args.bands.now c.loop-strip.bands c.args.other.now c.loop-strip.other y c.loop-strip.invariant
