use Rattle.std.proofs.Common.{◌≡◌, ◌∙◌, sym, ap, to_z, of_z, arith}
use Rattle.std.specs.Prelude.{slice_get}
use Rattle.std.specs.Int.{w32}
use Rattle.std.proofs.lemmas.Int.{ints}
use Rattle.region_bands.specs.Bands.{Bands, Reading}
use Rattle.region_rows.specs.Rows.{keeps_place}
use Rattle.region_rows.specs.Steps.{later}
use Rattle.region_rows.specs.WalkLemmas.{differ, agree}
use Rattle.region_rows.proofs.MakeLemmas.{made_begins, made_on, made_turn, step_after, made_room, made_done, nearer_end, from_firsts, start_from}
use Rattle.region_rows.proofs.make_row.Goals as goal
use Rattle.region_rows.proofs.make_row.Goals.{then-keeps-is_open, else-keeps-is_open}

pub loop-step-init : goal.loop-step-init
loop-step-init c =
    let x = to_z w32 (of_z w32 c.rows_start-x.result) in
    let same : x ≡ c.rows_start-x.result = omega (arith, ints) in (
      made_begins c.args.keep c.args.bands.now c.args.other.now x c.requires.empty c.requires.first_row c.requires.second_row
          (start_from c.args.bands.now.left c.args.other.now.left c.first_left-a.result c.first_left-b.result x c.first_left-a.ensures c.first_left-b.ensures (same ∙ c.rows_start-x.ensures)),
      c.first_left-a.ensures,
      c.first_left-b.ensures,
    )

pub close-requires : goal.close-requires
close-requires c = made_room c.args.keep c.args.bands.now c.loop-step.bands c.args.other.now c.loop-step.other c.loop-step.is_open (to_z w32 c.loop-step.from-bits) (to_z w32 c.loop-step.x-bits) c.loop-step.invariant.0 c.requires.room

pub close-requires-2 : goal.close-requires-2
close-requires-2 c = made_room c.args.keep c.args.bands.now c.loop-step.bands c.args.other.now c.loop-step.other c.loop-step.is_open (to_z w32 c.loop-step.from-bits) (to_z w32 c.loop-step.x-bits) c.loop-step.invariant.0 c.requires.room

pub first_after-a-requires : goal.first_after-a-requires
first_after-a-requires c = elim c.if-keeps-is_open.branch [
  | then-keeps-is_open w ↦ c.loop-step.invariant.1 ∙ ap (λ (u : Bands). slice_get u.left 0) (sym (w.bands-is ∙ w.close.ensures.row))
  | else-keeps-is_open w ↦ c.loop-step.invariant.1 ∙ ap (λ (u : Bands). slice_get u.left 0) (sym w.bands-is)
]

pub loop-step-smaller : goal.loop-step-smaller
loop-step-smaller c =
    let x = to_z w32 c.loop-step.x-bits in
    let from = to_z w32 c.loop-step.from-bits in
    let edge = to_z w32 (of_z w32 c.in-Some.step.edge) in
    let same : edge ≡ c.in-Some.step.edge = omega (arith, ints) in
    let after = step_after c.args.keep c.args.bands.now c.loop-step.bands c.args.other.now c.loop-step.other c.loop-step.is_open from x c.loop-step.invariant.0 c.in-Some.step
    (from_firsts x c.loop-step.bands.left c.loop-step.other.left c.loop-step.a c.loop-step.b c.next_step.result _ c.loop-step.invariant.1 c.loop-step.invariant.2 c.next_step.ensures c.in-Some.is) in
    nearer_end x edge (omega (arith, ints, after, same)) (omega (arith, ints))

pub loop-step-preserved : goal.loop-step-preserved
loop-step-preserved c =
    let x = to_z w32 c.loop-step.x-bits in
    let from = to_z w32 c.loop-step.from-bits in
    let edge = to_z w32 (of_z w32 c.in-Some.step.edge) in
    let same : edge ≡ c.in-Some.step.edge = omega (arith, ints) in
    let keeps = keeps_place c.args.keep c.in-Some.step.in_first c.in-Some.step.in_second in
    let is : c.keeps-keeps.result ≡ keeps = c.keeps-keeps.ensures in
    let found = from_firsts x c.loop-step.bands.left c.loop-step.other.left c.loop-step.a c.loop-step.b c.next_step.result _ c.loop-step.invariant.1 c.loop-step.invariant.2 c.next_step.ensures c.in-Some.is in
    let bands_are = c.first_after-a.ensures.left ∙ ap (λ n. record c.if-keeps-is_open.bands { left = later n c.if-keeps-is_open.bands.left }) same in
    let other_is = c.first_after_of-b.ensures.left ∙ ap (λ n. record c.loop-step.other { left = later n c.loop-step.other.left }) same in (
      elim c.if-keeps-is_open.branch [
        | then-keeps-is_open w ↦ made_turn c.args.keep c.args.bands.now c.loop-step.bands c.args.other.now c.loop-step.other c.loop-step.is_open from x c.loop-step.invariant.0 c.in-Some.step
            w.close.new.bands c.if-keeps-is_open.bands c.first_after-a.new.bands c.first_after_of-b.new.reader c.if-keeps-is_open.is_open (to_z w32 c.if-keeps-is_open.from-bits) edge found
            (λ e. differ c.keeps-keeps.result c.loop-step.is_open w.if-keeps-is_open.true (is ∙ e)) w.close.ensures.spare w.close.ensures.row w.bands-is bands_are other_is (w.is_open-is ∙ is) w.from-is same
        | else-keeps-is_open w ↦ made_on c.args.keep c.args.bands.now c.loop-step.bands c.args.other.now c.loop-step.other c.loop-step.is_open from x c.loop-step.invariant.0 c.in-Some.step
            c.if-keeps-is_open.bands c.first_after-a.new.bands c.first_after_of-b.new.reader c.if-keeps-is_open.is_open (to_z w32 c.if-keeps-is_open.from-bits) edge found
            (sym is ∙ agree c.keeps-keeps.result c.loop-step.is_open w.if-keeps-is_open.false) w.bands-is bands_are other_is w.is_open-is w.from-is same
      ],
      c.first_after-a.ensures.first ∙ ap (λ (u : Bands). slice_get u.left 0) (sym c.first_after-a.ensures.left),
      c.first_after_of-b.ensures.first ∙ ap (λ (u : Reading). slice_get u.left 0) (sym c.first_after_of-b.ensures.left),
    )

pub returns : goal.returns
returns c =
    let x = to_z w32 c.loop-step.x-bits in
    let from = to_z w32 c.loop-step.from-bits in
    let ended = from_firsts x c.loop-step.bands.left c.loop-step.other.left c.loop-step.a c.loop-step.b c.next_step.result _ c.loop-step.invariant.1 c.loop-step.invariant.2 c.next_step.ensures c.in_default.is in
    let all = made_done c.args.keep c.args.bands.now c.loop-step.bands c.args.other.now c.loop-step.other c.loop-step.is_open from x c.loop-step.invariant.0 c.close-2.new.bands ended c.close-2.ensures.spare c.close-2.ensures.row in
    record { kept = all.0; spare = all.1; same = all.2; read = all.3 }
