use Rattle.std.proofs.Common.{rules, ◌≡◌, ◌-◌, sym, ◌∙◌, arith}
use Rattle.subrectangles.specs.Pixels.{pixel_lines}
use Rattle.subrectangles.specs.Scans.{none_in_repeated}
use Rattle.subrectangles.proofs.RowsAsPixels.{same_rows}
use Rattle.subrectangles.proofs.translated.Pixels.repeats.Goals as goal

pub returns-then-y-gt0 : goal.returns-then-y-gt0
returns-then-y-gt0 c same b =
    let e : c.row.result.now ≡ c.row-then-y-gt0.result.now = search rules in
    none_in_repeated (pixel_lines c.args.self.now) c.args.y c.if-y-gt0.true
    (same_rows c.args.self.now c.args.y (c.args.y - 1) c.requires (omega (arith, c.requires)) (sym c.row.ensures.row ∙ e ∙ c.row-then-y-gt0.ensures.row)) b
