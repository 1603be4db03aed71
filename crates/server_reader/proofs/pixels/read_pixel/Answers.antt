use Rattle.std.proofs.Common.{refl}
use Rattle.server_reader.specs.declared.stage.Stage.TheVariants as stage
use Rattle.server_reader.specs.declared.step.Step.TheVariants as step
use Rattle.server_reader.specs.Steps.{state_at}
use Rattle.server_reader.proofs.RunLemmas.{pixel_turn, one_wide, one_high}
use Rattle.server_reader.proofs.StepLemmas.{as_turn}
use Rattle.server_reader.proofs.OnLemmas.{turn_on}
use Rattle.server_reader.proofs.pixels.read_pixel.Goals as goal

pub returns-clause-read : goal.returns-clause-read
returns-clause-read c =
    let run = c.run-area.result in
    let after = c.behind_run.result in
    let wide = one_wide run.w run.h c.run-area.ensures.run.some c.run-area.ensures.few in
    let high = one_high run.w run.h c.run-area.ensures.run.some c.run-area.ensures.few in
    as_turn (state_at c.args.size (stage.Pixels c.args.rows)) c.args.bytes.now (state_at c.args.size after) c.state_at.result (step.Fill run c.pixel_at-pixel.result) c.state_at.ensures
    (pixel_turn c.args.size c.args.rows run after c.args.bytes.now c.pixel_at-pixel.result c.requires wide high c.pixel_at-pixel.ensures
    (c.behind_run.ensures.rest c.args.bytes.now (rw (wide, high) c.requires)))

pub returns-clause-on : goal.returns-clause-on
returns-clause-on c on = turn_on c.args.size c.behind_run.result _ _ c.state_at.ensures (c.behind_run.ensures.on c.args.size on) (c.run-area.ensures.on c.args.size on.0) refl
