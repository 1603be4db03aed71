use Rattle.std.proofs.Common.{ℕ, map, drop, reverse, sym, ap, ◌∙◌, arith}
use Rattle.std.specs.Map.{values_of}
use Rattle.std.proofs.lemmas.Option.{same_Some, none-some}
use Rattle.client_list.specs.Connected.{Connected}
use Rattle.client_list.specs.WalkLemmas.{change_step, change_end, take_step, keys-changed}
use Rattle.copy_schedule.specs.Marks.{Marks}
use Rattle.viewer_list.specs.declared.lagging.Lagging.{Lagging}
use Rattle.viewer_list.specs.Lagging.{resized_marks, resized_of}
use Rattle.viewer_list.proofs.resizing.resize_all.Goals as goal
use Rattle.viewer_list.proofs.resizing.resize_all.Goals.{in-Some-pop, in_default-pop}

pub resize-requires : goal.resize-requires
resize-requires c =
    let f : Lagging → Lagging = resized_of c.args.width c.args.height in
    let g : Lagging → Marks = resized_marks c.args.width c.args.height in
    let start : Connected Lagging = c.args.viewers.now in
    let taken = take_step g start _ c.loop-position.viewers c.loop-position.position c.in-Some.at c.loop-position.marks.items c.pop.new.self.items c.pop.result (keys-changed f start.pairs) c.first-position.ensures.listed c.loop-position.invariant.walk c.in-Some.is c.loop-position.invariant.left c.pop.ensures.items
    (λ some. c.pop.ensures.variant.1 (omega (arith, some))) in
    same_Some c.in-Some-pop.prepared (g taken.value) (sym c.in-Some-pop.is ∙ taken.next)
    ∙ ap g (same_Some taken.value c.at_mut.result.now (sym taken.was ∙ c.at_mut.ensures.value))

pub loop-position-preserved : goal.loop-position-preserved
loop-position-preserved c =
    let f : Lagging → Lagging = resized_of c.args.width c.args.height in
    let g : Lagging → Marks = resized_marks c.args.width c.args.height in
    let start : Connected Lagging = c.args.viewers.now in
    let now : Connected Lagging = c.loop-position.viewers in
    let taken = take_step g start _ now c.loop-position.position c.in-Some.at c.loop-position.marks.items c.pop.new.self.items c.pop.result (keys-changed f start.pairs) c.first-position.ensures.listed c.loop-position.invariant.walk c.in-Some.is c.loop-position.invariant.left c.pop.ensures.items
    (λ some. c.pop.ensures.variant.1 (omega (arith, some))) in
    elim c.match-pop.branch [
      | in-Some-pop w ↦
          let step = rw w.viewers-is at c.next-position.ensures.passed in
          rw w.viewers-is (record {
            walk =
                change_step f start now c.loop-position.position c.next-position.result c.in-Some.at w.at_mut.result.now w.resize.new.self c.loop-position.invariant.walk c.in-Some.is w.at_mut.ensures.value
                w.resize.ensures (rw w.viewers-is at c.next-position.ensures.position) step;
            left = taken.left ∙ sym (ap (λ (m : ℕ). reverse (drop m (map g (values_of start.pairs)))) step);
          })
      | in_default-pop w ↦ absurd (none-some (g taken.value) (sym w.in_default-pop.is ∙ taken.next))
    ]

pub returns : goal.returns
returns c = change_end (resized_of c.args.width c.args.height) c.args.viewers.now c.loop-position.viewers c.loop-position.position c.first-position.ensures.listed c.loop-position.invariant.walk c.in_default.is
