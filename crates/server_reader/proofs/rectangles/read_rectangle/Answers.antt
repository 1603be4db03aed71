use Rattle.std.proofs.Common.{◌≡◌, ℤ, true, false, ◌&&◌, ap, sym, ◌∙◌, refl}
use Rattle.std.specs.Int.{w32, cast_signed, cast_unsigned}
use Rattle.messages.specs.Grammar.{is_desktop_size}
use Rattle.viewer_picture.specs.Messages.{is_in_picture, may_come}
use Rattle.server_reader.specs.declared.stage.Stage.TheVariants as stage
use Rattle.server_reader.specs.declared.step.Step.TheVariants as step
use Rattle.server_reader.specs.Stages.{listed, agreed}
use Rattle.server_reader.specs.Heard.{is_quiet}
use Rattle.server_reader.specs.Steps.{state_at}
use Rattle.server_reader.proofs.RectangleTurns.{encoding_back, known_turn, unknown_refused, resized_turn}
use Rattle.server_reader.proofs.StepLemmas.{as_turn, same_turn}
use Rattle.server_reader.proofs.OnLemmas.{turn_on}
use Rattle.server_reader.proofs.rectangles.read_rectangle.Goals as goal

pub returns-then-is_desktop_size-clause-read : goal.returns-then-is_desktop_size-clause-read
returns-then-is_desktop_size-clause-read c =
    let head = c.args.head.now in
    let area = c.area_in-area.result in
    let after = c.resized.result.state.stage in
    let is = encoding_back c.args.head.now c.encoding_in-encoding.result c.type_inv.head c.encoding_in-encoding.ensures in
    same_turn (state_at c.args.size (stage.Rectangle c.args.behind)) head c.resized.result (state_at (record { width = area.w; height = area.h }) after) (step.Size area.w area.h) c.resized.ensures.state c.resized.ensures.step
    (resized_turn c.args.size c.args.behind head after area c.requires c.area_in-area.ensures (ap is_desktop_size (sym is) ∙ sym c.is_desktop_size.ensures ∙ c.if-is_desktop_size.true) c.resized.ensures.stage)

pub returns-then-not-is_on-clause-read : goal.returns-then-not-is_on-clause-read
returns-then-not-is_on-clause-read c =
    let encoding : ℤ = cast_signed w32 (cast_unsigned w32 c.encoding_in-encoding.result) in
    let is = encoding_back c.args.head.now c.encoding_in-encoding.result c.type_inv.head c.encoding_in-encoding.ensures in
    let outside : is_in_picture (agreed c.args.size) c.area_in-area.result ≡ false = sym c.is_on.ensures.test ∙ c.if-not-is_on.true in
    unknown_refused c.args.size c.args.behind c.args.head.now c.area_in-area.result encoding c.requires c.area_in-area.ensures is
    (ap (λ b. b && may_come listed encoding) outside) (sym c.is_desktop_size.ensures ∙ c.if-is_desktop_size.false)

pub returns-in_default-clause-read : goal.returns-in_default-clause-read
returns-in_default-clause-read c =
    let encoding : ℤ = cast_signed w32 (cast_unsigned w32 c.encoding_in-encoding.result) in
    let is = encoding_back c.args.head.now c.encoding_in-encoding.result c.type_inv.head c.encoding_in-encoding.ensures in
    let inside : is_in_picture (agreed c.args.size) c.area_in-area.result ≡ true = sym c.is_on.ensures.test ∙ c.if-not-is_on.false in
    let other = sym c.is_desktop_size.ensures ∙ c.if-is_desktop_size.false in
    unknown_refused c.args.size c.args.behind c.args.head.now c.area_in-area.result encoding c.requires c.area_in-area.ensures is
    (ap (λ b. b && may_come listed encoding) inside ∙ c.in_default.ensures.other other) other

pub returns-clause-read : goal.returns-clause-read
returns-clause-read c =
    let head = c.args.head.now in
    let after = c.in-Some.stage in
    let is = encoding_back c.args.head.now c.encoding_in-encoding.result c.type_inv.head c.encoding_in-encoding.ensures in
    let inside : is_in_picture (agreed c.args.size) c.area_in-area.result ≡ true = sym c.is_on.ensures.test ∙ c.if-not-is_on.false in
    as_turn (state_at c.args.size (stage.Rectangle c.args.behind)) head (state_at c.args.size after) c.state_at.result step.Head c.state_at.ensures
    (known_turn c.args.size c.args.behind head after c.area_in-area.result _ c.requires c.area_in-area.ensures is inside
    c.in-Some.ensures.listed (sym c.is_desktop_size.ensures ∙ c.if-is_desktop_size.false) (c.in-Some.ensures.stage c.args.size))

pub returns-then-is_desktop_size-clause-on : goal.returns-then-is_desktop_size-clause-on
returns-then-is_desktop_size-clause-on c = c.resized.ensures.on

pub returns-clause-on : goal.returns-clause-on
returns-clause-on c = turn_on c.args.size c.in-Some.stage _ _ c.state_at.ensures (c.in-Some.ensures.on c.args.size (c.is_on.ensures.on c.if-not-is_on.false)) tt refl

pub returns-then-is_desktop_size-clause-heard : goal.returns-then-is_desktop_size-clause-heard
returns-then-is_desktop_size-clause-heard c = ap is_quiet c.resized.ensures.step
