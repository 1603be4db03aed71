use Rattle.std.proofs.Common.{[], ◌++◌, ap, ◌∙◌, refl}
use Rattle.input_queue.specs.Ends.{Taking}
use Rattle.serving.proofs.Telling.{told-nothing, told-then, took-none, took-then}
use Rattle.serving.proofs.application.run_application.Goals as goal

pub loop-init : goal.loop-init
loop-init g c = (c.requires, [], took-none c.args.taker.now c.args.taker.now refl, told-nothing g.A.Application.stands c.args.application.now)

pub returns-in_err-tell_next-clause-told : goal.returns-in_err-tell_next-clause-told
returns-in_err-tell_next-clause-told g c =
    let i = c.loop.invariant in
    let n = c.tell_next.ensures.told in
    (i.1 ++ n.0, took-then c.args.taker.now c.loop.taker c.tell_next.new.taker i.1 n.0 i.2 n.1, told-then g.A.Application.stands c.args.application.now c.loop.application c.tell_next.new.application i.1 n.0 i.3 n.2)

pub returns-then-branch-clause-told : goal.returns-then-branch-clause-told
returns-then-branch-clause-told g c =
    let i = c.loop.invariant in
    let n = c.tell_next.ensures.told in
    (i.1 ++ n.0, took-then c.args.taker.now c.loop.taker c.tell_next.new.taker i.1 n.0 i.2 n.1, told-then g.A.Application.stands c.args.application.now c.loop.application c.tell_next.new.application i.1 n.0 i.3 n.2)

pub loop-preserved : goal.loop-preserved
loop-preserved g c =
    let i = c.loop.invariant in
    let n = c.tell_next.ensures.told in (
      ap (λ (t : Taking). t.queue) n.1 ∙ i.0,
      i.1 ++ n.0,
      took-then c.args.taker.now c.loop.taker c.tell_next.new.taker i.1 n.0 i.2 n.1,
      told-then g.A.Application.stands c.args.application.now c.loop.application c.tell_next.new.application i.1 n.0 i.3 n.2,
    )
