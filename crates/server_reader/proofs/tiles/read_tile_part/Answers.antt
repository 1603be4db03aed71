use Rattle.std.proofs.Common.{◌-◌, slice_index, ap, ◌∙◌, arith}
use Rattle.std.specs.Prelude.{if◌then◌else◌}
use Rattle.server_reader.specs.declared.stage.Stage.TheVariants as stage
use Rattle.server_reader.specs.declared.step.Step.TheVariants as step
use Rattle.server_reader.specs.Groups.{pixel_in, part_in}
use Rattle.server_reader.specs.Stages.{part_of, tile_area, tile_of}
use Rattle.server_reader.specs.Heard.{is_quiet}
use Rattle.server_reader.specs.Steps.{state_at}
use Rattle.server_reader.proofs.TileTurns.{coloured_turn, plain_turn}
use Rattle.server_reader.proofs.StepLemmas.{same_turn}
use Rattle.server_reader.proofs.tiles.read_tile_part.Goals as goal

pub returns-then-parts-clause-read : goal.returns-then-parts-clause-read
returns-then-parts-clause-read c =
    let bytes = c.args.bytes.now in
    let p = c.args.parts in
    let after = c.part_turn.result.state.stage in
    same_turn (state_at c.args.size (stage.TileParts p)) bytes c.part_turn.result (state_at c.args.size after)
    (step.Fill (part_of (tile_area p.tile.rectangle.area (tile_of p.tile)) (part_in (slice_index bytes 4) (slice_index bytes 5))) (pixel_in bytes 0)) c.part_turn.ensures.state
    (c.part_turn.ensures.step ∙ ap (λ n. step.Fill (part_of (tile_area p.tile.rectangle.area (tile_of p.tile)) (part_in (slice_index bytes 4) (slice_index bytes 5))) n) c.pixel_at.ensures)
    (coloured_turn c.args.size p bytes after (p.left - 1) c.if-parts.true (c.requires ∙ ap (λ b. if b then 6 else 2) c.if-parts.true) (omega (arith, p.some)) c.part_turn.ensures.stage)

pub returns-clause-read : goal.returns-clause-read
returns-clause-read c =
    let bytes = c.args.bytes.now in
    let p = c.args.parts in
    let after = c.part_turn-2.result.state.stage in
    let pixel = c.unwrap-pixel.result in
    same_turn (state_at c.args.size (stage.TileParts p)) bytes c.part_turn-2.result (state_at c.args.size after)
    (step.Fill (part_of (tile_area p.tile.rectangle.area (tile_of p.tile)) (part_in (slice_index bytes 0) (slice_index bytes 1))) pixel) c.part_turn-2.ensures.state c.part_turn-2.ensures.step
    (plain_turn c.args.size p bytes after (p.left - 1) pixel c.if-parts.false c.unwrap-pixel.ensures (c.requires ∙ ap (λ b. if b then 6 else 2) c.if-parts.false) (omega (arith, p.some)) c.part_turn-2.ensures.stage)

pub returns-then-parts-clause-on : goal.returns-then-parts-clause-on
returns-then-parts-clause-on c on = c.part_turn.ensures.on on

pub returns-clause-on : goal.returns-clause-on
returns-clause-on c on = c.part_turn-2.ensures.on on

pub returns-then-parts-clause-heard : goal.returns-then-parts-clause-heard
returns-then-parts-clause-heard c = ap is_quiet c.part_turn.ensures.step

pub returns-clause-heard : goal.returns-clause-heard
returns-clause-heard c = ap is_quiet c.part_turn-2.ensures.step
