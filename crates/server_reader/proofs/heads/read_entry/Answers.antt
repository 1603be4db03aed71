use Rattle.std.proofs.Common.{◌+◌, ◌-◌, refl, arith}
use Rattle.pixel_translate.specs.Pixel.{be16_at}
use Rattle.server_reader.specs.declared.stage.Stage.TheVariants as stage
use Rattle.server_reader.specs.declared.step.Step.TheVariants as step
use Rattle.server_reader.specs.Steps.{state_at}
use Rattle.server_reader.proofs.MessageTurns.{entry_turn}
use Rattle.server_reader.proofs.StepLemmas.{as_turn}
use Rattle.server_reader.proofs.OnLemmas.{turn_on}
use Rattle.server_reader.proofs.heads.read_entry.Goals as goal

pub returns-clause-read : goal.returns-clause-read
returns-clause-read c =
    let bytes = c.args.bytes.now in
    let entries = c.args.entries in
    rw (c.be16_at.ensures, c.be16_at-2.ensures, c.be16_at-3.ensures)
    (as_turn (state_at c.args.size (stage.MapEntries entries)) bytes (state_at c.args.size c.next_entry-stage.result) c.state_at.result
    (step.MapEntry entries.next (be16_at bytes 0) (be16_at bytes 2) (be16_at bytes 4)) c.state_at.ensures
    (entry_turn c.args.size entries bytes c.next_entry-stage.result (entries.next + 1) (entries.left - 1) c.requires refl (omega (arith, entries.some)) c.next_entry-stage.ensures.rest))

pub returns-clause-on : goal.returns-clause-on
returns-clause-on c = turn_on c.args.size c.next_entry-stage.result _ _ c.state_at.ensures (c.next_entry-stage.ensures.on c.args.size) tt refl
