use Rattle.std.proofs.Common.{◌∙◌, sym, ap}
use Rattle.viewer.specs.Given.{prepared_bytes}
use Rattle.viewer.specs.Sending.{sending_kept}
use Rattle.viewer_list.specs.declared.lagging.Lagging.{Lagging}
use Rattle.viewer_list.proofs.lagging.Lagging.cut_with.Goals as goal

pub returns-clause-bytes : goal.returns-clause-bytes
returns-clause-bytes g c =
    c.commit_cut.ensures.update
    ∙ ap prepared_bytes (sym c.in-Some.is)
    ∙ c.in_ok-prepared.ensures.bytes
    ∙ ap (λ (l : Lagging). (sending_kept c.args.picture.now.width c.args.picture.now.height c.args.limit c.args.picture.now.colours l.viewer).0) c.in_ok-catch_up.ensures.ok
