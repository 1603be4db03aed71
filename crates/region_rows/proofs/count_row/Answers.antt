use Rattle.std.proofs.Common.{◌≡◌, ◌∙◌, ◌+◌, cond, refl, sym, ap, to_z, of_z, arith}
use Rattle.std.specs.Prelude.{slice_get}
use Rattle.std.specs.Int.{w32}
use Rattle.std.proofs.lemmas.Int.{ints}
use Rattle.region_bands.specs.Bands.{Reading}
use Rattle.region_rows.specs.Rows.{keeps_place}
use Rattle.region_rows.specs.Steps.{later}
use Rattle.region_rows.proofs.MakeLemmas.{counted_begins, counted_after, counted_more, counted_done, nearer_end, from_firsts, start_from, goes_on, begins_or_none, added_one, added_none, not_counted, counted_few}
use Rattle.region_rows.proofs.count_row.Goals as goal
use Rattle.region_rows.proofs.count_row.Goals.{then-is_open+then-not-keeps, else-is_open, else-is_open-via-then-is_open+else-not-keeps, else-is_open-via-else-is_open}

pub loop-step-init : goal.loop-step-init
loop-step-init c =
    let x = to_z w32 (of_z w32 c.rows_start-x.result) in
    let same : x ≡ c.rows_start-x.result = omega (arith, ints) in (
      counted_begins c.args.keep c.args.first.now c.args.second.now x 0 c.requires.first_row c.requires.second_row
          (start_from c.args.first.now.left c.args.second.now.left c.first_left-a.result c.first_left-b.result x c.first_left-a.ensures c.first_left-b.ensures (same ∙ c.rows_start-x.ensures))
          (omega (arith, ints)) refl,
      c.first_left-a.ensures,
      c.first_left-b.ensures,
    )

pub loop-step-smaller : goal.loop-step-smaller
loop-step-smaller c =
    let x = to_z w32 c.loop-step.x-bits in
    let edge = to_z w32 (of_z w32 c.in-Some.step.edge) in
    let same : edge ≡ c.in-Some.step.edge = omega (arith, ints) in
    let after = counted_after c.args.keep c.args.first.now c.args.second.now c.loop-step.first c.loop-step.second c.loop-step.is_open x c.loop-step.count c.loop-step.invariant.0 c.in-Some.step
    (from_firsts x c.loop-step.first.left c.loop-step.second.left c.loop-step.a c.loop-step.b c.next_step.result _ c.loop-step.invariant.1 c.loop-step.invariant.2 c.next_step.ensures c.in-Some.is) in
    nearer_end x edge (omega (arith, ints, after, same)) (omega (arith, ints))

pub loop-step-preserved : goal.loop-step-preserved
loop-step-preserved c =
    let x = to_z w32 c.loop-step.x-bits in
    let edge = to_z w32 (of_z w32 c.in-Some.step.edge) in
    let same : edge ≡ c.in-Some.step.edge = omega (arith, ints) in
    let keeps = keeps_place c.args.keep c.in-Some.step.in_first c.in-Some.step.in_second in
    let is : c.keeps-keeps.result ≡ keeps = c.keeps-keeps.ensures in (
      counted_more c.args.keep c.args.first.now c.args.second.now c.loop-step.first c.loop-step.second c.loop-step.is_open x c.loop-step.count c.loop-step.invariant.0 c.in-Some.step
          c.first_after_of-a.new.reader c.first_after_of-b.new.reader c.keeps-keeps.result edge c.if-is_open.count
          (from_firsts x c.loop-step.first.left c.loop-step.second.left c.loop-step.a c.loop-step.b c.next_step.result _ c.loop-step.invariant.1 c.loop-step.invariant.2 c.next_step.ensures c.in-Some.is)
          (elim c.if-is_open.branch [
            | then-is_open+then-not-keeps w ↦ added_one c.loop-step.is_open c.keeps-keeps.result keeps c.loop-step.count c.if-is_open.count is w.if-is_open.true w.if-not-keeps.true w.count-is
            | else-is_open w ↦ elim w.else-is_open.branch [
              | else-is_open-via-then-is_open+else-not-keeps w' ↦ added_none c.loop-step.is_open c.keeps-keeps.result keeps c.loop-step.count c.if-is_open.count is (goes_on c.loop-step.is_open c.keeps-keeps.result w'.if-not-keeps.false) w.count-is
              | else-is_open-via-else-is_open w' ↦ added_none c.loop-step.is_open c.keeps-keeps.result keeps c.loop-step.count c.if-is_open.count is (begins_or_none c.loop-step.is_open c.keeps-keeps.result w'.if-is_open.false) w.count-is
            ]
          ])
          (c.first_after_of-a.ensures.left ∙ ap (λ n. record c.loop-step.first { left = later n c.loop-step.first.left }) same)
          (c.first_after_of-b.ensures.left ∙ ap (λ n. record c.loop-step.second { left = later n c.loop-step.second.left }) same) is same,
      c.first_after_of-a.ensures.first ∙ ap (λ (u : Reading). slice_get u.left 0) (sym c.first_after_of-a.ensures.left),
      c.first_after_of-b.ensures.first ∙ ap (λ (u : Reading). slice_get u.left 0) (sym c.first_after_of-b.ensures.left),
    )

pub returns-then-is_open-2-clause-count : goal.returns-then-is_open-2-clause-count
returns-then-is_open-2-clause-count c =
    let x = to_z w32 c.loop-step.x-bits in
    (counted_done c.args.keep c.args.first.now c.args.second.now c.loop-step.first c.loop-step.second c.loop-step.is_open x c.loop-step.count c.loop-step.invariant.0
    (from_firsts x c.loop-step.first.left c.loop-step.second.left c.loop-step.a c.loop-step.b c.next_step.result _ c.loop-step.invariant.1 c.loop-step.invariant.2 c.next_step.ensures c.in_default.is)
    _ (ap (λ b. c.loop-step.count + cond b 1 0) (sym c.if-is_open-2.true))).0

pub returns-else-is_open-2-clause-count : goal.returns-else-is_open-2-clause-count
returns-else-is_open-2-clause-count c =
    let x = to_z w32 c.loop-step.x-bits in
    (counted_done c.args.keep c.args.first.now c.args.second.now c.loop-step.first c.loop-step.second c.loop-step.is_open x c.loop-step.count c.loop-step.invariant.0
    (from_firsts x c.loop-step.first.left c.loop-step.second.left c.loop-step.a c.loop-step.b c.next_step.result _ c.loop-step.invariant.1 c.loop-step.invariant.2 c.next_step.ensures c.in_default.is)
    c.loop-step.count (not_counted c.loop-step.count c.loop-step.is_open c.if-is_open-2.false)).0

pub returns-then-is_open-2-clause-few : goal.returns-then-is_open-2-clause-few
returns-then-is_open-2-clause-few c =
    let x = to_z w32 c.loop-step.x-bits in
    counted_few c.args.keep c.args.first.now c.args.second.now c.loop-step.first c.loop-step.second c.loop-step.is_open x c.loop-step.count c.loop-step.invariant.0 (omega (arith, ints)) _ (ap (λ b. c.loop-step.count + cond b 1 0) (sym c.if-is_open-2.true))

pub returns-else-is_open-2-clause-few : goal.returns-else-is_open-2-clause-few
returns-else-is_open-2-clause-few c =
    let x = to_z w32 c.loop-step.x-bits in
    counted_few c.args.keep c.args.first.now c.args.second.now c.loop-step.first c.loop-step.second c.loop-step.is_open x c.loop-step.count c.loop-step.invariant.0 (omega (arith, ints)) c.loop-step.count (not_counted c.loop-step.count c.loop-step.is_open c.if-is_open-2.false)
