use Rattle.std.proofs.Common.{Bool, ap, sym, subst, ◌∙◌, refl}
use Rattle.pixel_translate.specs.declared.Area.{Area}
use Rattle.encode_hextile.specs.declared.Carried.{Carried}
use Rattle.server_reader.specs.declared.stage.Behind.TheVariants as behind
use Rattle.server_reader.specs.declared.stage.Stage.TheVariants as stage
use Rattle.server_reader.specs.declared.step.Step.TheVariants as step
use Rattle.server_reader.specs.Groups.{own_pixels}
use Rattle.server_reader.specs.Stages.{pixels_rest, tiles_at_behind, tile_area, tile_of, tile_parts_onto, left_by}
use Rattle.server_reader.specs.Steps.{state_at, IsTurn}
use Rattle.server_reader.proofs.TileHeads.{raw_turn, tile_turn, tile_without_background, tile_without_foreground}
use Rattle.server_reader.proofs.StepLemmas.{as_turn}
use Rattle.server_reader.proofs.OnLemmas.{turn_on}
use Rattle.server_reader.proofs.tiles.read_tile.Goals as goal

pub returns-then-has-clause-read : goal.returns-then-has-clause-read
returns-then-has-clause-read c =
    let head = c.args.head.now in
    let t = c.args.tile in
    let after = c.pixels_of.result in
    as_turn (state_at c.args.size (stage.Tile t)) head (state_at c.args.size after) c.state_at.result step.Head c.state_at.ensures
    (raw_turn c.args.size t head after (sym c.has.ensures ∙ c.if-has.true) c.requires
    (λ d later. c.pixels_of.ensures.rest d later ∙ ap (λ (a : Area). pixels_rest a (behind.Tile t) d later) c.places_of-area.ensures.area))

pub returns-in_default-clause-read : goal.returns-in_default-clause-read
returns-in_default-clause-read c =
    tile_without_background c.args.size c.args.tile c.args.head.now (sym c.has.ensures ∙ c.if-has.false) c.requires
    (ap (λ (k : Carried). k.background) (sym c.own_pixels-carried.ensures) ∙ c.in_default.is)

pub returns-then-not-have_pixels-clause-read : goal.returns-then-not-have_pixels-clause-read
returns-then-not-have_pixels-clause-read c =
    tile_without_foreground c.args.size c.args.tile c.args.head.now c.in-Some.pixel c.part_count-left.result (sym c.has.ensures ∙ c.if-has.false) c.requires
    (ap (λ (k : Carried). k.background) (sym c.own_pixels-carried.ensures) ∙ c.in-Some.is) (sym c.has-coloured.ensures ∙ c.have_pixels.ensures.plain c.if-not-have_pixels.true)
    (ap (λ (k : Carried). k.foreground) (sym c.own_pixels-carried.ensures) ∙ c.have_pixels.ensures.none c.if-not-have_pixels.true) c.part_count-left.ensures (c.have_pixels.ensures.some c.if-not-have_pixels.true)

pub returns-clause-read : goal.returns-clause-read
returns-clause-read c =
    let head = c.args.head.now in
    let t = c.args.tile in
    let size = c.args.size in
    let pixel = c.in-Some.pixel in
    let after = c.next_part-stage.result in
    let P : Area → Type 0 = λ a. IsTurn (state_at size (stage.Tile t)) head (record { state = state_at size after; step = step.Fill a pixel }) in
    as_turn (state_at size (stage.Tile t)) head (state_at size after) c.state_at-2.result (step.Fill c.places_of-area.result pixel) c.state_at-2.ensures
    (subst P (sym c.places_of-area.ensures.area)
    (tile_turn size t head after pixel c.part_count-left.result (sym c.has.ensures ∙ c.if-has.false) c.requires
    (ap (λ (k : Carried). k.background) (sym c.own_pixels-carried.ensures) ∙ c.in-Some.is) c.part_count-left.ensures
    (λ d later.
    c.next_part-stage.ensures.rest d later
    ∙ ap (λ (k : Carried). tiles_at_behind t (left_by c.has-coloured.result k) d (tile_parts_onto (tile_area t.rectangle.area (tile_of t)) c.has-coloured.result k.foreground c.part_count-left.result d.shown later)) c.own_pixels-carried.ensures
    ∙ ap (λ (b : Bool). tiles_at_behind t (left_by b (own_pixels t.carried head)) d (tile_parts_onto (tile_area t.rectangle.area (tile_of t)) b (own_pixels t.carried head).foreground c.part_count-left.result d.shown later)) c.has-coloured.ensures)))

pub returns-then-has-clause-on : goal.returns-then-has-clause-on
returns-then-has-clause-on c on = turn_on c.args.size c.pixels_of.result _ _ c.state_at.ensures (c.pixels_of.ensures.on c.args.size (c.places_of-area.ensures.on c.args.size on) on) tt refl

pub returns-clause-on : goal.returns-clause-on
returns-clause-on c on = turn_on c.args.size c.next_part-stage.result _ _ c.state_at-2.ensures (c.next_part-stage.ensures.on c.args.size on) (c.places_of-area.ensures.on c.args.size on) refl
