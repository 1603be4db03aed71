use Rattle.std.proofs.Common.{true, false, refl}
use Rattle.region.proofs.SizeLemmas.{some_left, is_left, none_left, not_none, is_none, alike_more, not_fewer, whether_fewer}
use Rattle.region.proofs.sizes.has_fewer.Goals as goal

pub advance-requires : goal.advance-requires
advance-requires c = is_left c.bands.first.bands c.first_rows.result c.is_some.result c.first_rows.ensures c.is_some.ensures c.bands-test.true

pub advance-requires-in-bands : goal.advance-requires-in-bands
advance-requires-in-bands c = is_left c.bands.second.bands c.first_rows-other.result true c.first_rows-other.ensures (not_none c.first_rows-other.result c.is_none.result c.is_none.ensures c.if-is_none.false) refl

pub bands-smaller : goal.bands-smaller
bands-smaller c =
    let first = some_left c.bands.first.bands c.first_rows.result c.is_some.result c.first_rows.ensures c.is_some.ensures c.bands-test.true in
    let second = some_left c.bands.second.bands c.first_rows-other.result true c.first_rows-other.ensures (not_none c.first_rows-other.result c.is_none.result c.is_none.ensures c.if-is_none.false) refl in
    (alike_more c.args.first.now c.args.second.now c.bands.first c.bands.second c.advance.new.self c.advance-in-bands.new.self c.bands.invariant first.0 first.1 first.2 second.0 second.1 second.2 (c.advance.ensures first.0 first.1 first.2) (c.advance-in-bands.ensures second.0 second.1 second.2)).1

pub bands-preserved : goal.bands-preserved
bands-preserved c =
    let first = some_left c.bands.first.bands c.first_rows.result c.is_some.result c.first_rows.ensures c.is_some.ensures c.bands-test.true in
    let second = some_left c.bands.second.bands c.first_rows-other.result true c.first_rows-other.ensures (not_none c.first_rows-other.result c.is_none.result c.is_none.ensures c.if-is_none.false) refl in
    (alike_more c.args.first.now c.args.second.now c.bands.first c.bands.second c.advance.new.self c.advance-in-bands.new.self c.bands.invariant first.0 first.1 first.2 second.0 second.1 second.2 (c.advance.ensures first.0 first.1 first.2) (c.advance-in-bands.ensures second.0 second.1 second.2)).0

pub returns-then-is_none : goal.returns-then-is_none
returns-then-is_none c = not_fewer c.args.first.now c.args.second.now c.bands.first c.bands.second c.bands.invariant
    (none_left c.bands.second.bands c.first_rows-other.result false c.first_rows-other.ensures (is_none c.first_rows-other.result c.is_none.result c.is_none.ensures c.if-is_none.true) refl)

pub returns : goal.returns
returns c = whether_fewer c.args.first.now c.args.second.now c.bands.first c.bands.second c.first_rows-left.result c.is_some-2.result c.bands.invariant
    (none_left c.bands.first.bands c.first_rows.result c.is_some.result c.first_rows.ensures c.is_some.ensures c.bands-test.false) c.first_rows-left.ensures c.is_some-2.ensures
