use Rattle.std.proofs.Common.{ap, ◌∙◌, refl}
use Rattle.server_reader.specs.declared.stage.Stage.TheVariants as stage
use Rattle.server_reader.specs.declared.step.Step.TheVariants as step
use Rattle.server_reader.specs.Groups.{pixel_in}
use Rattle.server_reader.specs.Stages.{rectangles_behind, rre_parts_onto}
use Rattle.server_reader.specs.Steps.{state_at}
use Rattle.server_reader.proofs.RectangleTurns.{rre_turn}
use Rattle.server_reader.proofs.StepLemmas.{as_turn}
use Rattle.server_reader.proofs.OnLemmas.{turn_on}
use Rattle.server_reader.proofs.rectangles.read_rre.Goals as goal

pub returns-clause-read : goal.returns-clause-read
returns-clause-read c =
    let bytes = c.args.bytes.now in
    let r = c.args.rectangle in
    let after = c.next_part-stage.result in
    rw (c.pixel_at.ensures)
    (as_turn (state_at c.args.size (stage.Rre r)) bytes (state_at c.args.size after) c.state_at.result (step.Fill r.area (pixel_in bytes 4)) c.state_at.ensures
    (rre_turn c.args.size r bytes after c.requires (λ d later. c.next_part-stage.ensures.rest d later ∙ ap (λ n. rectangles_behind r.behind d (rre_parts_onto r.area n d.shown later)) c.be32_at.ensures)))

pub returns-clause-on : goal.returns-clause-on
returns-clause-on c on = turn_on c.args.size c.next_part-stage.result _ _ c.state_at.ensures (c.next_part-stage.ensures.on c.args.size on) on refl
