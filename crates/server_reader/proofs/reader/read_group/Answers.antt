use Rattle.server_reader.specs.declared.stage.Stage.TheVariants as stage
use Rattle.server_reader.proofs.MessageTurns.{fault_refused}
use Rattle.server_reader.proofs.StepLemmas.{read_as, refused_as}
use Rattle.std.proofs.Common.{refl, sym, subst}
use Rattle.std.specs.Prelude.{Ok, IfOk, IfErr}
use Rattle.server_reader.specs.Heard.{HearsAt}
use Rattle.server_reader.specs.Faults.{IsFaultOf}
use Rattle.server_reader.specs.declared.stage.Stage.{Stage}
use Rattle.server_reader.specs.OnPicture.{StageIsOn}
use Rattle.server_reader.proofs.reader.read_group.Goals as goal

pub returns-in-Message-clause-read : goal.returns-in-Message-clause-read
returns-in-Message-clause-read c = read_as c.args.state stage.Message c.args.group.now c.read_message.result c.requires.text c.in-Message.is c.read_message.ensures.read

pub returns-in-Rectangle-clause-read : goal.returns-in-Rectangle-clause-read
returns-in-Rectangle-clause-read c = read_as c.args.state (stage.Rectangle c.in-Rectangle.behind) c.args.group.now c.read_rectangle.result c.requires.text c.in-Rectangle.is c.read_rectangle.ensures.read

pub returns-in-Pixels-clause-read : goal.returns-in-Pixels-clause-read
returns-in-Pixels-clause-read c = read_as c.args.state (stage.Pixels c.in-Pixels.rows) c.args.group.now (Ok c.read_pixel.result) c.requires.text c.in-Pixels.is c.read_pixel.ensures.read

pub returns-in-Source-clause-read : goal.returns-in-Source-clause-read
returns-in-Source-clause-read c = read_as c.args.state (stage.Source c.in-Source.rectangle) c.args.group.now c.read_source.result c.requires.text c.in-Source.is c.read_source.ensures.read

pub returns-in-Rre-clause-read : goal.returns-in-Rre-clause-read
returns-in-Rre-clause-read c = read_as c.args.state (stage.Rre c.in-Rre.rectangle) c.args.group.now (Ok c.read_rre.result) c.requires.text c.in-Rre.is c.read_rre.ensures.read

pub returns-in-RreParts-clause-read : goal.returns-in-RreParts-clause-read
returns-in-RreParts-clause-read c = read_as c.args.state (stage.RreParts c.in-RreParts.parts) c.args.group.now (Ok c.read_rre_part.result) c.requires.text c.in-RreParts.is c.read_rre_part.ensures.read

pub returns-in-Tile-clause-read : goal.returns-in-Tile-clause-read
returns-in-Tile-clause-read c = read_as c.args.state (stage.Tile c.in-Tile.tile) c.args.group.now c.read_tile.result c.requires.text c.in-Tile.is c.read_tile.ensures.read

pub returns-in-TileParts-clause-read : goal.returns-in-TileParts-clause-read
returns-in-TileParts-clause-read c = read_as c.args.state (stage.TileParts c.in-TileParts.parts) c.args.group.now (Ok c.read_tile_part.result) c.requires.text c.in-TileParts.is c.read_tile_part.ensures.read

pub returns-in-MapEntries-clause-read : goal.returns-in-MapEntries-clause-read
returns-in-MapEntries-clause-read c = read_as c.args.state (stage.MapEntries c.in-MapEntries.entries) c.args.group.now (Ok c.read_entry.result) c.requires.text c.in-MapEntries.is c.read_entry.ensures.read

pub returns-in-Faulted-clause-read : goal.returns-in-Faulted-clause-read
returns-in-Faulted-clause-read c =
    refused_as c.args.state (stage.Faulted c.in-Faulted.fault) c.args.group.now c.requires.text c.in-Faulted.is
    (fault_refused c.args.state.size c.in-Faulted.fault c.args.group.now)

pub returns-in-Message-clause-on : goal.returns-in-Message-clause-on
returns-in-Message-clause-on c on = c.read_message.ensures.on

pub returns-in-Rectangle-clause-on : goal.returns-in-Rectangle-clause-on
returns-in-Rectangle-clause-on c on = c.read_rectangle.ensures.on

pub returns-in-MapEntries-clause-on : goal.returns-in-MapEntries-clause-on
returns-in-MapEntries-clause-on c on = c.read_entry.ensures.on

pub returns-in-Pixels-clause-on : goal.returns-in-Pixels-clause-on
returns-in-Pixels-clause-on c on = let P : Stage → Type 0 = StageIsOn c.args.state.size in c.read_pixel.ensures.on (subst P c.in-Pixels.is on)

pub returns-in-Source-clause-on : goal.returns-in-Source-clause-on
returns-in-Source-clause-on c on = let P : Stage → Type 0 = StageIsOn c.args.state.size in c.read_source.ensures.on (subst P c.in-Source.is on)

pub returns-in-Rre-clause-on : goal.returns-in-Rre-clause-on
returns-in-Rre-clause-on c on = let P : Stage → Type 0 = StageIsOn c.args.state.size in c.read_rre.ensures.on (subst P c.in-Rre.is on)

pub returns-in-RreParts-clause-on : goal.returns-in-RreParts-clause-on
returns-in-RreParts-clause-on c on = let P : Stage → Type 0 = StageIsOn c.args.state.size in c.read_rre_part.ensures.on (subst P c.in-RreParts.is on)

pub returns-in-Tile-clause-on : goal.returns-in-Tile-clause-on
returns-in-Tile-clause-on c on = let P : Stage → Type 0 = StageIsOn c.args.state.size in c.read_tile.ensures.on (subst P c.in-Tile.is on)

pub returns-in-TileParts-clause-on : goal.returns-in-TileParts-clause-on
returns-in-TileParts-clause-on c on = let P : Stage → Type 0 = StageIsOn c.args.state.size in c.read_tile_part.ensures.on (subst P c.in-TileParts.is on)

pub returns-in-Message-clause-why : goal.returns-in-Message-clause-why
returns-in-Message-clause-why c =
    let P : Stage → Type 0 = λ at. IfErr c.read_message.result (λ fault. IsFaultOf c.args.state.size at c.args.group.now fault) in subst P (sym c.in-Message.is) c.read_message.ensures.why

pub returns-in-Rectangle-clause-why : goal.returns-in-Rectangle-clause-why
returns-in-Rectangle-clause-why c =
    let P : Stage → Type 0 = λ at. IfErr c.read_rectangle.result (λ fault. IsFaultOf c.args.state.size at c.args.group.now fault) in subst P (sym c.in-Rectangle.is) c.read_rectangle.ensures.why

pub returns-in-Source-clause-why : goal.returns-in-Source-clause-why
returns-in-Source-clause-why c =
    let P : Stage → Type 0 = λ at. IfErr c.read_source.result (λ fault. IsFaultOf c.args.state.size at c.args.group.now fault) in subst P (sym c.in-Source.is) c.read_source.ensures.why

pub returns-in-Tile-clause-why : goal.returns-in-Tile-clause-why
returns-in-Tile-clause-why c =
    let P : Stage → Type 0 = λ at. IfErr c.read_tile.result (λ fault. IsFaultOf c.args.state.size at c.args.group.now fault) in subst P (sym c.in-Tile.is) c.read_tile.ensures.why

pub returns-in-Faulted-clause-why : goal.returns-in-Faulted-clause-why
returns-in-Faulted-clause-why c =
    let P : Stage → Type 0 = λ at. IsFaultOf c.args.state.size at c.args.group.now c.in-Faulted.fault in subst P (sym c.in-Faulted.is) refl

pub returns-in-Message-clause-heard : goal.returns-in-Message-clause-heard
returns-in-Message-clause-heard c =
    let P : Stage → Type 0 = λ at. IfOk c.read_message.result (λ turn. HearsAt at c.args.group.now turn.step) in subst P (sym c.in-Message.is) c.read_message.ensures.heard

pub returns-in-Rectangle-clause-heard : goal.returns-in-Rectangle-clause-heard
returns-in-Rectangle-clause-heard c =
    let P : Stage → Type 0 = λ at. IfOk c.read_rectangle.result (λ turn. HearsAt at c.args.group.now turn.step) in subst P (sym c.in-Rectangle.is) c.read_rectangle.ensures.heard

pub returns-in-Source-clause-heard : goal.returns-in-Source-clause-heard
returns-in-Source-clause-heard c =
    let P : Stage → Type 0 = λ at. IfOk c.read_source.result (λ turn. HearsAt at c.args.group.now turn.step) in subst P (sym c.in-Source.is) c.read_source.ensures.heard

pub returns-in-Tile-clause-heard : goal.returns-in-Tile-clause-heard
returns-in-Tile-clause-heard c =
    let P : Stage → Type 0 = λ at. IfOk c.read_tile.result (λ turn. HearsAt at c.args.group.now turn.step) in subst P (sym c.in-Tile.is) c.read_tile.ensures.heard

pub returns-in-Pixels-clause-heard : goal.returns-in-Pixels-clause-heard
returns-in-Pixels-clause-heard c =
    let P : Stage → Type 0 = λ at. HearsAt at c.args.group.now c.read_pixel.result.step in subst P (sym c.in-Pixels.is) c.read_pixel.ensures.heard

pub returns-in-Rre-clause-heard : goal.returns-in-Rre-clause-heard
returns-in-Rre-clause-heard c =
    let P : Stage → Type 0 = λ at. HearsAt at c.args.group.now c.read_rre.result.step in subst P (sym c.in-Rre.is) c.read_rre.ensures.heard

pub returns-in-RreParts-clause-heard : goal.returns-in-RreParts-clause-heard
returns-in-RreParts-clause-heard c =
    let P : Stage → Type 0 = λ at. HearsAt at c.args.group.now c.read_rre_part.result.step in subst P (sym c.in-RreParts.is) c.read_rre_part.ensures.heard

pub returns-in-TileParts-clause-heard : goal.returns-in-TileParts-clause-heard
returns-in-TileParts-clause-heard c =
    let P : Stage → Type 0 = λ at. HearsAt at c.args.group.now c.read_tile_part.result.step in subst P (sym c.in-TileParts.is) c.read_tile_part.ensures.heard

pub returns-in-MapEntries-clause-heard : goal.returns-in-MapEntries-clause-heard
returns-in-MapEntries-clause-heard c =
    let P : Stage → Type 0 = λ at. HearsAt at c.args.group.now c.read_entry.result.step in subst P (sym c.in-MapEntries.is) c.read_entry.ensures.heard
