use Rattle.std.proofs.Common.{◌≡◌, ap, refl}
use Rattle.std.specs.Prelude.{slice_index}
use Rattle.source_pixels.specs.declared.formats.SourceFormat.TheVariants as kind
use Rattle.source_pixels.specs.Formats.{table_colour}
use Rattle.source_pixels.specs.Source.{Source}
use Rattle.source_picture.specs.Painting.{with_pixel}
use Rattle.source_picture.proofs.DoneLemmas.{source_is, taken_ok, taken_at, pixel_painted}
use Rattle.source_picture.proofs.painter.fill_places.Goals as goal

pub returns-in-Ok-take-clause-painted : goal.returns-in-Ok-take-clause-painted
returns-in-Ok-take-clause-painted c config list fine was =
    let zeros = c.args.zeros.now in
    let table = c.args.table in
    let pixel = slice_index table.now 0 in
    let old = c.args.canvas.now.screen in
    let new = c.take.new.self.screen in
    let s : Source = record { width = c.from-width.result; height = c.from-height.result; stride = c.from-width.result; bytes = zeros; format = kind.Table table } in
    let is : c.in-Ok.source ≡ s = source_is s c.in-Ok.source c.new.result c.new.ensures c.in-Ok.is in
    taken_at c.args.area c.in-Ok.source s c.from.result c.from-2.result old.picture new.picture (with_pixel c.args.area pixel) is c.from.ensures c.from-2.ensures
    (taken_ok c.in-Ok.source c.from.result c.from-2.result config list old new c.take.result c.in-Ok-take.field-0 (c.take.ensures.takes config list fine was) c.in-Ok-take.is)
    (pixel_painted c.args.area pixel zeros c.from-width.result c.from-height.result (kind.Table table) old.picture c.from-width.ensures c.from-height.ensures c.requires.zeros refl
    (λ bytes none. ap (λ place. table_colour table.now place) none))
