use Rattle.std.proofs.Common.{sym, subst, All}
use Rattle.std.specs.Map.{values_of}
use Rattle.scene.proofs.Kept.{all-last}
use Rattle.viewer_list.specs.Viewers.{Viewers, IsOfSize}
use Rattle.viewer_list.specs.SizeLemmas.{new_size}
use Rattle.scene.proofs.connecting.let_in.Goals as goal

pub returns-in-Err-clause-sized : goal.returns-in-Err-clause-sized
returns-in-Err-clause-sized c = λ sized. subst (λ (s : Viewers). All (IsOfSize c.args.width c.args.height) (values_of s.pairs)) (sym c.in-Err.ensures.err) sized

pub returns-in-Ok-clause-sized : goal.returns-in-Ok-clause-sized
returns-in-Ok-clause-sized c = λ sized.
    rw c.in-Ok.ensures.pairs (all-last (IsOfSize c.args.width c.args.height) c.args.viewers.now.pairs c.args.number c.in_ok-viewer.viewer sized (new_size c.args.width c.args.height c.in_ok-viewer.viewer c.in_ok-viewer.ensures))
