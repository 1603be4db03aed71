use Rattle.std.proofs.Common.{◌-◌, arith, refl}
use Rattle.server_reader.specs.declared.stage.Stage.TheVariants as stage
use Rattle.server_reader.specs.declared.step.Step.TheVariants as step
use Rattle.server_reader.specs.Groups.{pixel_in, area_in}
use Rattle.server_reader.specs.Stages.{part_of}
use Rattle.server_reader.specs.Steps.{state_at}
use Rattle.server_reader.proofs.RectangleTurns.{rre_part_turn}
use Rattle.server_reader.proofs.StepLemmas.{as_turn}
use Rattle.server_reader.proofs.OnLemmas.{turn_on}
use Rattle.server_reader.proofs.rectangles.read_rre_part.Goals as goal

pub returns-clause-read : goal.returns-clause-read
returns-clause-read c =
    let bytes = c.args.bytes.now in
    let parts = c.args.parts in
    let after = c.next_part.result in
    rw (c.part_of.ensures.part, c.area_in.ensures, c.pixel_at.ensures)
    (as_turn (state_at c.args.size (stage.RreParts parts)) bytes (state_at c.args.size after) c.state_at.result (step.Fill (part_of parts.rectangle.area (area_in bytes 4)) (pixel_in bytes 0)) c.state_at.ensures
    (rre_part_turn c.args.size parts bytes after (parts.left - 1) c.requires (omega (arith, parts.some)) c.next_part.ensures.rest))

pub returns-clause-on : goal.returns-clause-on
returns-clause-on c on = turn_on c.args.size c.next_part.result _ _ c.state_at.ensures (c.next_part.ensures.on c.args.size on) (c.part_of.ensures.on c.args.size on) refl
