use Rattle.std.proofs.Common.{map, ap, sym, ◌∙◌}
use Rattle.pixel_translate.specs.Pixel.{pixel}
use Rattle.subrectangles.specs.Lines.{values_in}
use Rattle.subrectangles.proofs.RowsAsPixels.{row_map}
use Rattle.subrectangles.proofs.translated.Pixels.fill.Goals as goal

pub returns-in-Some : goal.returns-in-Some
returns-in-Some c =
    rw c.in-Some.is (
    c.write_row.ensures ∙ ap (map (pixel c.in-Some.table.now)) c.row.ensures.row
    ∙ sym (row_map (pixel c.in-Some.table.now) c.args.self.now.colours.width c.args.self.now.colours.height (values_in c.args.self.now.colours) c.args.y c.requires.inside)
    )
