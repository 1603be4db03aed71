use Rattle.std.proofs.Common.{◌≡◌, true, sym, ◌∙◌, refl}
use Rattle.pixel_translate.specs.Pixel.{be16_at}
use Rattle.viewer_picture.specs.Messages.{is_in_picture}
use Rattle.server_reader.specs.declared.stage.Stage.TheVariants as stage
use Rattle.server_reader.specs.declared.step.Step.TheVariants as step
use Rattle.server_reader.specs.Stages.{agreed}
use Rattle.server_reader.specs.Steps.{state_at}
use Rattle.server_reader.proofs.RectangleTurns.{copy_turn}
use Rattle.server_reader.proofs.StepLemmas.{as_turn}
use Rattle.server_reader.proofs.OnLemmas.{turn_on}
use Rattle.server_reader.proofs.rectangles.read_source.Goals as goal

pub returns-clause-read : goal.returns-clause-read
returns-clause-read c =
    let bytes = c.args.bytes.now in
    let r = c.args.rectangle in
    let after = c.next_rectangle-stage.result in
    let inside : is_in_picture (agreed c.args.size) (record r.area { x = c.be16_at-x.result; y = c.be16_at-y.result }) ≡ true = sym c.is_on.ensures.test ∙ c.if-not-is_on.false in
    rw (c.be16_at-x.ensures, c.be16_at-y.ensures)
    (as_turn (state_at c.args.size (stage.Source r)) bytes (state_at c.args.size after) c.state_at.result (step.Copy r.area (be16_at bytes 0) (be16_at bytes 2)) c.state_at.ensures
    (copy_turn c.args.size r bytes after c.requires (rw (c.be16_at-x.ensures, c.be16_at-y.ensures) at inside) c.next_rectangle-stage.ensures.rest))

pub returns-clause-on : goal.returns-clause-on
returns-clause-on c on = turn_on c.args.size c.next_rectangle-stage.result _ _ c.state_at.ensures (c.next_rectangle-stage.ensures.on c.args.size) (on, c.is_on.ensures.on c.if-not-is_on.false) refl
