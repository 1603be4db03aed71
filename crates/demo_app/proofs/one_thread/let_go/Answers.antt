use Rattle.std.proofs.Common.{refl}
use Rattle.event_loop.proofs.Steps.{on-then, on-same}
use Rattle.demo_app.proofs.one_thread.let_go.Goals as goal

pub returns-in_err-numbers : goal.returns-in_err-numbers
returns-in_err-numbers c = record { served = on-same _ _ refl }

pub loop-viewer-init : goal.loop-viewer-init
loop-viewer-init c = on-same _ _ refl

pub returns-in_err-close_viewer : goal.returns-in_err-close_viewer
returns-in_err-close_viewer c = record { served = on-then _ _ _ c.loop-viewer.invariant c.close_viewer.ensures.served }

pub loop-viewer-preserved : goal.loop-viewer-preserved
loop-viewer-preserved c = on-then _ _ _ c.loop-viewer.invariant c.close_viewer.ensures.served
