use Rattle.std.proofs.Common.{Ok, rules}
use Rattle.std.proofs.lemmas.Result.{err_from_is_err_and}
use Rattle.event_loop.specs.declared.event_loop.LoopError.{LoopError}
use Rattle.event_loop.proofs.Steps.{on-same, tells-silently, tells-all, tells-then, tells-ended}
use Rattle.event_loop.proofs.event_loop.EventLoop.part.Goals as goal

pub loop-init : goal.loop-init
loop-init g c =
    let before = c.args.application.now in
    tells-silently g.A.Application.stands {X = Unit {0}} {E = LoopError} before before (Ok tt) _ _ (λ told h. h) (on-same _ _ (first_of (search rules, cc)))

pub returns-in_err-part_with_one : goal.returns-in_err-part_with_one
returns-in_err-part_with_one g c =
    let stands = g.A.Application.stands in
    let error = err_from_is_err_and c.from_residual.result c.from_residual.ensures.1 in
    record {
      served = tells-then stands c.args.application.now c.loop.application c.part_with_one.new.application c.from_residual.result _ _ _ c.loop.invariant
          (tells-ended stands c.loop.application c.part_with_one.new.application c.part_with_one.result c.from_residual.result error.0 _ _ error.1 c.part_with_one.ensures.served);
    }

pub returns-then-not-branch : goal.returns-then-not-branch
returns-then-not-branch g c =
    let stands = g.A.Application.stands in
    record {
      served = tells-then stands {X = Unit {0}} {E = LoopError} c.args.application.now c.loop.application c.part_with_one.new.application (Ok tt) _ _ _ c.loop.invariant
          (tells-all stands c.loop.application c.part_with_one.new.application c.part_with_one.result c.in_ok-part_with_one.field-0 _ _ c.in_ok-part_with_one.was c.part_with_one.ensures.served);
    }

pub loop-preserved : goal.loop-preserved
loop-preserved g c =
    let stands = g.A.Application.stands in
    tells-then stands {X = Unit {0}} {E = LoopError} c.args.application.now c.loop.application c.part_with_one.new.application (Ok tt) _ _ _ c.loop.invariant
    (tells-all stands c.loop.application c.part_with_one.new.application c.part_with_one.result c.in_ok-part_with_one.field-0 _ _ c.in_ok-part_with_one.was c.part_with_one.ensures.served)
