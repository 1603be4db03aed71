use Rattle.std.proofs.Common.{◌≡◌, ◌∙◌, sym, ap, to_z, of_z, arith}
use Rattle.std.specs.Prelude.{slice_get}
use Rattle.std.specs.Int.{w32}
use Rattle.std.proofs.lemmas.Int.{ints}
use Rattle.std.proofs.lemmas.Result.{on_ok_weaker}
use Rattle.region_bands.specs.Bands.{Reading}
use Rattle.region_rows.specs.Rows.{keeps_place}
use Rattle.region_rows.specs.Steps.{later}
use Rattle.region_rows.specs.WalkLemmas.{differ, agree}
use Rattle.region_rows.proofs.MakeLemmas.{nearer_end, from_firsts, start_from}
use Rattle.region_rows.proofs.MergeLemmas.{merge_begins, merge_after, merge_on, merge_turn, merge_done}
use Rattle.region_rows.proofs.merge_row.Goals as goal
use Rattle.region_rows.proofs.merge_row.Goals.{then-keeps-is_open+in_ok-close_anew, else-keeps-is_open}

pub loop-step-init : goal.loop-step-init
loop-step-init c =
    let x = to_z w32 (of_z w32 c.rows_start-x.result) in
    let same : x ≡ c.rows_start-x.result = omega (arith, ints) in (
      merge_begins c.args.keep c.args.bands.now c.args.first.now c.args.second.now x c.requires.empty c.requires.first_row c.requires.second_row
          (start_from c.args.first.now.left c.args.second.now.left c.first_left-a.result c.first_left-b.result x c.first_left-a.ensures c.first_left-b.ensures (same ∙ c.rows_start-x.ensures)),
      c.first_left-a.ensures,
      c.first_left-b.ensures,
    )

pub loop-step-smaller : goal.loop-step-smaller
loop-step-smaller c =
    let x = to_z w32 c.loop-step.x-bits in
    let from = to_z w32 c.loop-step.from-bits in
    let edge = to_z w32 (of_z w32 c.in-Some.step.edge) in
    let same : edge ≡ c.in-Some.step.edge = omega (arith, ints) in
    let after = merge_after c.args.keep c.args.bands.now c.loop-step.bands c.args.first.now c.loop-step.first c.args.second.now c.loop-step.second c.loop-step.is_open from x c.loop-step.invariant.0 c.in-Some.step
    (from_firsts x c.loop-step.first.left c.loop-step.second.left c.loop-step.a c.loop-step.b c.next_step.result _ c.loop-step.invariant.1 c.loop-step.invariant.2 c.next_step.ensures c.in-Some.is) in
    nearer_end x edge (omega (arith, ints, after, same)) (omega (arith, ints))

pub loop-step-preserved : goal.loop-step-preserved
loop-step-preserved c =
    let x = to_z w32 c.loop-step.x-bits in
    let from = to_z w32 c.loop-step.from-bits in
    let edge = to_z w32 (of_z w32 c.in-Some.step.edge) in
    let same : edge ≡ c.in-Some.step.edge = omega (arith, ints) in
    let keeps = keeps_place c.args.keep c.in-Some.step.in_first c.in-Some.step.in_second in
    let is : c.keeps-keeps.result ≡ keeps = c.keeps-keeps.ensures in
    let found = from_firsts x c.loop-step.first.left c.loop-step.second.left c.loop-step.a c.loop-step.b c.next_step.result _ c.loop-step.invariant.1 c.loop-step.invariant.2 c.next_step.ensures c.in-Some.is in
    let first_is = c.first_after_of-a.ensures.left ∙ ap (λ n. record c.loop-step.first { left = later n c.loop-step.first.left }) same in
    let second_is = c.first_after_of-b.ensures.left ∙ ap (λ n. record c.loop-step.second { left = later n c.loop-step.second.left }) same in (
      elim c.if-keeps-is_open.branch [
        | then-keeps-is_open+in_ok-close_anew w ↦ merge_turn c.args.keep c.args.bands.now c.loop-step.bands c.args.first.now c.loop-step.first c.args.second.now c.loop-step.second c.loop-step.is_open from x c.loop-step.invariant.0 c.in-Some.step
            w.close_anew.new.bands c.if-keeps-is_open.bands c.first_after_of-a.new.reader c.first_after_of-b.new.reader c.if-keeps-is_open.is_open (to_z w32 c.if-keeps-is_open.from-bits) edge found
            (λ e. differ c.keeps-keeps.result c.loop-step.is_open w.if-keeps-is_open.true (is ∙ e)) w.in_ok-close_anew.ensures.ok w.bands-is first_is second_is (w.is_open-is ∙ is) w.from-is same
        | else-keeps-is_open w ↦ merge_on c.args.keep c.args.bands.now c.loop-step.bands c.args.first.now c.loop-step.first c.args.second.now c.loop-step.second c.loop-step.is_open from x c.loop-step.invariant.0 c.in-Some.step
            c.if-keeps-is_open.bands c.first_after_of-a.new.reader c.first_after_of-b.new.reader c.if-keeps-is_open.is_open (to_z w32 c.if-keeps-is_open.from-bits) edge found
            (sym is ∙ agree c.keeps-keeps.result c.loop-step.is_open w.if-keeps-is_open.false) w.bands-is first_is second_is w.is_open-is w.from-is same
      ],
      c.first_after_of-a.ensures.first ∙ ap (λ (u : Reading). slice_get u.left 0) (sym c.first_after_of-a.ensures.left),
      c.first_after_of-b.ensures.first ∙ ap (λ (u : Reading). slice_get u.left 0) (sym c.first_after_of-b.ensures.left),
    )

pub returns-clause-kept : goal.returns-clause-kept
returns-clause-kept c =
    let x = to_z w32 c.loop-step.x-bits in
    let from = to_z w32 c.loop-step.from-bits in
    let ended = from_firsts x c.loop-step.first.left c.loop-step.second.left c.loop-step.a c.loop-step.b c.next_step.result _ c.loop-step.invariant.1 c.loop-step.invariant.2 c.next_step.ensures c.in_default.is in
    on_ok_weaker c.close_anew-2.result (merge_done c.args.keep c.args.bands.now c.loop-step.bands c.args.first.now c.loop-step.first c.args.second.now c.loop-step.second c.loop-step.is_open from x c.loop-step.invariant.0 c.close_anew-2.new.bands ended) c.close_anew-2.ensures.ok
