use Rattle.std.proofs.Common.{◌≡◌, ap, ◌∙◌}
use Rattle.source_pixels.specs.declared.formats.SourceFormat.TheVariants as kind
use Rattle.source_pixels.specs.Source.{Source, source_refusal}
use Rattle.source_picture.specs.Bands.{rows_of}
use Rattle.source_picture.proofs.DoneLemmas.{accepted, source_is, taken_ok, taken_is, rows_are}
use Rattle.source_picture.proofs.painter.take_rows.Goals as goal

pub returns-in_default-clause-refused : goal.returns-in_default-clause-refused
returns-in_default-clause-refused c none =
    let s : Source = record { width = c.from-width.result; height = c.from-height.result; stride = c.args.stride; bytes = c.args.bytes.now; format = kind.TrueColour c.server.result } in
    let is = rows_are c.args.area c.args.bytes.now c.args.stride c.from-width.result c.from-height.result c.server.result c.from-width.ensures c.from-height.ensures c.server.ensures in
    absurd (c.in_default.not-Ok s (accepted s c.new.result (ap source_refusal is ∙ none) c.new.ensures))

pub returns-in-Ok-take-clause-taken : goal.returns-in-Ok-take-clause-taken
returns-in-Ok-take-clause-taken c config list fine was =
    let area = c.args.area in
    let bytes = c.args.bytes.now in
    let old = c.args.canvas.now.screen in
    let new = c.take.new.self.screen in
    let s : Source = record { width = c.from-width.result; height = c.from-height.result; stride = c.args.stride; bytes = bytes; format = kind.TrueColour c.server.result } in
    let is : c.in-Ok.source ≡ rows_of area bytes c.args.stride =
    source_is s c.in-Ok.source c.new.result c.new.ensures c.in-Ok.is
    ∙ rows_are area bytes c.args.stride c.from-width.result c.from-height.result c.server.result c.from-width.ensures c.from-height.ensures c.server.ensures in
    taken_is area c.in-Ok.source (rows_of area bytes c.args.stride) c.from.result c.from-2.result old.picture new.picture is c.from.ensures c.from-2.ensures
    (taken_ok c.in-Ok.source c.from.result c.from-2.result config list old new c.take.result c.in-Ok-take.field-0 (c.take.ensures.takes config list fine was) c.in-Ok-take.is)
