use Rattle.std.proofs.Common.{◌≡◌, slice_index, ap, ◌∙◌, arith, refl}
use Rattle.pixel_translate.specs.Pixel.{be16_at}
use Rattle.viewer_picture.specs.Messages.{rectangles_at}
use Rattle.server_reader.specs.declared.stage.Stage.TheVariants as stage
use Rattle.server_reader.specs.declared.step.Step.TheVariants as step
use Rattle.server_reader.specs.Groups.{message_length}
use Rattle.server_reader.specs.Stages.{entries_rest}
use Rattle.server_reader.specs.Steps.{state_at}
use Rattle.server_reader.proofs.MessageTurns.{update_turn, map_turn, bell_turn, text_turn, some_head, unknown_refused}
use Rattle.server_reader.proofs.StepLemmas.{as_turn}
use Rattle.server_reader.proofs.OnLemmas.{turn_on}
use Rattle.server_reader.proofs.heads.read_message.Goals as goal

pub returns-in-0-clause-read : goal.returns-in-0-clause-read
returns-in-0-clause-read c =
    let head = c.args.head.now in
    let kind : slice_index head 0 ≡ 0 = c.in-0.is in
    as_turn (state_at c.args.size stage.Message) head (state_at c.args.size c.next_rectangle.result) c.state_at.result step.Head c.state_at.ensures
    (update_turn c.args.size head c.next_rectangle.result (c.requires ∙ ap message_length kind) kind
    (λ d bytes. c.next_rectangle.ensures.rest d bytes ∙ ap (λ n. rectangles_at n d bytes) c.be16_at.ensures))

pub returns-in-1-clause-read : goal.returns-in-1-clause-read
returns-in-1-clause-read c =
    let head = c.args.head.now in
    let kind : slice_index head 0 ≡ 1 = c.in-1.is in
    as_turn (state_at c.args.size stage.Message) head (state_at c.args.size c.next_entry.result) c.state_at-in-1.result step.Head c.state_at-in-1.ensures
    (map_turn c.args.size head c.next_entry.result (c.requires ∙ ap message_length kind) kind
    (λ d bytes. c.next_entry.ensures.rest d bytes ∙ ap (λ n. entries_rest n c.from-first.result d bytes) c.be16_at-in-1-2.ensures ∙ ap (λ n. entries_rest (be16_at head 4) n d bytes) (c.from-first.ensures ∙ c.be16_at-in-1.ensures)))

pub returns-in-2-clause-read : goal.returns-in-2-clause-read
returns-in-2-clause-read c =
    let head = c.args.head.now in
    let kind : slice_index head 0 ≡ 2 = c.in-2.is in
    as_turn (state_at c.args.size stage.Message) head (state_at c.args.size stage.Message) c.state_at-in-2.result step.Bell c.state_at-in-2.ensures
    (bell_turn c.args.size head (c.requires ∙ ap message_length kind) kind)

pub returns-in-3-clause-read : goal.returns-in-3-clause-read
returns-in-3-clause-read c =
    let head = c.args.head.now in
    let kind : slice_index head 0 ≡ 3 = c.in-3.is in
    text_turn c.args.size head c.be32_at-length.result (c.requires ∙ ap message_length kind) kind c.be32_at-length.ensures

pub returns-in_default-clause-read : goal.returns-in_default-clause-read
returns-in_default-clause-read c =
    unknown_refused c.args.size c.args.head.now (some_head c.args.head.now c.requires) (omega (arith, c.in_default))

pub returns-in-0-clause-on : goal.returns-in-0-clause-on
returns-in-0-clause-on c = turn_on c.args.size c.next_rectangle.result _ _ c.state_at.ensures (c.next_rectangle.ensures.on c.args.size) tt refl

pub returns-in-1-clause-on : goal.returns-in-1-clause-on
returns-in-1-clause-on c = turn_on c.args.size c.next_entry.result _ _ c.state_at-in-1.ensures (c.next_entry.ensures.on c.args.size) tt refl
