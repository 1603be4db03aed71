use Rattle.std.proofs.Common.{◌≡◌, ◌∙◌, sym, ap, to_z, of_z, arith}
use Rattle.std.specs.Prelude.{slice_get}
use Rattle.std.specs.Int.{w32}
use Rattle.std.proofs.lemmas.Int.{ints}
use Rattle.region_bands.specs.Bands.{Reading}
use Rattle.region_rows.specs.Steps.{later, nearer}
use Rattle.region_rows.proofs.MakeLemmas.{start_from, nearer_end}
use Rattle.region_rows.proofs.SameLemmas.{same_begins, same_after, same_done, same_more, same_differs, common_found, not_true, not_false}
use Rattle.region_rows.proofs.same_kept.Goals as goal

pub loop-step-init : goal.loop-step-init
loop-step-init c =
    let x = to_z w32 (of_z w32 c.nearer-x.result) in
    let one = to_z w32 (of_z w32 c.rows_start-one.result) in
    let other = to_z w32 (of_z w32 c.rows_start-other.result) in
    let same : x ≡ c.nearer-x.result = omega (arith, ints) in
    let same_one : one ≡ c.rows_start-one.result = omega (arith, ints) in
    let same_other : other ≡ c.rows_start-other.result = omega (arith, ints) in
    let start = start_from c.args.first.now.left c.args.second.now.left c.first_left-a.result c.first_left-b.result one c.first_left-a.ensures c.first_left-b.ensures (same_one ∙ c.rows_start-one.ensures) in
    let start' = start_from c.args.third.now.left c.args.fourth.now.left c.first_left-c.result c.first_left-d.result other c.first_left-c.ensures c.first_left-d.ensures (same_other ∙ c.rows_start-other.ensures) in (
      same_begins c.args.keep c.args.first.now c.args.second.now c.args.third.now c.args.fourth.now x c.requires.first_row c.requires.second_row c.requires.third_row c.requires.fourth_row
          (same ∙ c.nearer-x.ensures ∙ ap (λ n. nearer n other) start ∙ ap (nearer _) start'),
      c.first_left-a.ensures,
      c.first_left-b.ensures,
      c.first_left-c.ensures,
      c.first_left-d.ensures,
    )

pub returns-then-not-step-clause-no : goal.returns-then-not-step-clause-no
returns-then-not-step-clause-no c =
    let x = to_z w32 c.loop-step.x-bits in
    let found = common_found c.args.keep x c.loop-step.first.left c.loop-step.second.left c.loop-step.third.left c.loop-step.fourth.left c.loop-step.a c.loop-step.b c.loop-step.c c.loop-step.d c.next_step.result c.next_step-in-loop-step.result c.common_step.result _ c.loop-step.invariant.1 c.loop-step.invariant.2 c.loop-step.invariant.3 c.loop-step.invariant.4 c.next_step.ensures c.next_step-in-loop-step.ensures c.common_step.ensures c.in-Some.is in
    λ _. same_differs c.args.keep c.args.first.now c.args.second.now c.args.third.now c.args.fourth.now c.loop-step.first c.loop-step.second c.loop-step.third c.loop-step.fourth x c.loop-step.invariant.0 c.in-Some.step found (not_true c.in-Some.step.agrees c.if-not-step.true)

pub loop-step-smaller : goal.loop-step-smaller
loop-step-smaller c =
    let x = to_z w32 c.loop-step.x-bits in
    let edge = to_z w32 (of_z w32 c.in-Some.step.edge) in
    let same : edge ≡ c.in-Some.step.edge = omega (arith, ints) in
    let found = common_found c.args.keep x c.loop-step.first.left c.loop-step.second.left c.loop-step.third.left c.loop-step.fourth.left c.loop-step.a c.loop-step.b c.loop-step.c c.loop-step.d c.next_step.result c.next_step-in-loop-step.result c.common_step.result _ c.loop-step.invariant.1 c.loop-step.invariant.2 c.loop-step.invariant.3 c.loop-step.invariant.4 c.next_step.ensures c.next_step-in-loop-step.ensures c.common_step.ensures c.in-Some.is in
    nearer_end x edge (omega (arith, ints, same_after c.args.keep c.args.first.now c.args.second.now c.args.third.now c.args.fourth.now c.loop-step.first c.loop-step.second c.loop-step.third c.loop-step.fourth x c.loop-step.invariant.0 c.in-Some.step found, same)) (omega (arith, ints))

pub loop-step-preserved : goal.loop-step-preserved
loop-step-preserved c =
    let x = to_z w32 c.loop-step.x-bits in
    let edge = to_z w32 (of_z w32 c.in-Some.step.edge) in
    let same : edge ≡ c.in-Some.step.edge = omega (arith, ints) in
    let found = common_found c.args.keep x c.loop-step.first.left c.loop-step.second.left c.loop-step.third.left c.loop-step.fourth.left c.loop-step.a c.loop-step.b c.loop-step.c c.loop-step.d c.next_step.result c.next_step-in-loop-step.result c.common_step.result _ c.loop-step.invariant.1 c.loop-step.invariant.2 c.loop-step.invariant.3 c.loop-step.invariant.4 c.next_step.ensures c.next_step-in-loop-step.ensures c.common_step.ensures c.in-Some.is in (
      same_more c.args.keep c.args.first.now c.args.second.now c.args.third.now c.args.fourth.now c.loop-step.first c.loop-step.second c.loop-step.third c.loop-step.fourth x c.loop-step.invariant.0 c.in-Some.step c.first_after_of-a.new.reader c.first_after_of-b.new.reader c.first_after_of-c.new.reader c.first_after_of-d.new.reader edge found (not_false c.in-Some.step.agrees c.if-not-step.false) same
          (c.first_after_of-a.ensures.left ∙ ap (λ n. record c.loop-step.first { left = later n c.loop-step.first.left }) same)
          (c.first_after_of-b.ensures.left ∙ ap (λ n. record c.loop-step.second { left = later n c.loop-step.second.left }) same)
          (c.first_after_of-c.ensures.left ∙ ap (λ n. record c.loop-step.third { left = later n c.loop-step.third.left }) same)
          (c.first_after_of-d.ensures.left ∙ ap (λ n. record c.loop-step.fourth { left = later n c.loop-step.fourth.left }) same),
      c.first_after_of-a.ensures.first ∙ ap (λ (u : Reading). slice_get u.left 0) (sym c.first_after_of-a.ensures.left),
      c.first_after_of-b.ensures.first ∙ ap (λ (u : Reading). slice_get u.left 0) (sym c.first_after_of-b.ensures.left),
      c.first_after_of-c.ensures.first ∙ ap (λ (u : Reading). slice_get u.left 0) (sym c.first_after_of-c.ensures.left),
      c.first_after_of-d.ensures.first ∙ ap (λ (u : Reading). slice_get u.left 0) (sym c.first_after_of-d.ensures.left),
    )

pub returns-clause-yes : goal.returns-clause-yes
returns-clause-yes c =
    let x = to_z w32 c.loop-step.x-bits in
    λ _. same_done c.args.keep c.args.first.now c.args.second.now c.args.third.now c.args.fourth.now c.loop-step.first c.loop-step.second c.loop-step.third c.loop-step.fourth x c.loop-step.invariant.0
    (common_found c.args.keep x c.loop-step.first.left c.loop-step.second.left c.loop-step.third.left c.loop-step.fourth.left c.loop-step.a c.loop-step.b c.loop-step.c c.loop-step.d c.next_step.result c.next_step-in-loop-step.result c.common_step.result _ c.loop-step.invariant.1 c.loop-step.invariant.2 c.loop-step.invariant.3 c.loop-step.invariant.4 c.next_step.ensures c.next_step-in-loop-step.ensures c.common_step.ensures c.in_default.is)
