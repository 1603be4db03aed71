use Rattle.std.proofs.Common.{◌≡◌, ℕ, List, sym, ◌∙◌, rules}
use Rattle.subrectangles.specs.Lines.{lines_in}
use Rattle.subrectangles.specs.Scans.{none_in_repeated}
use Rattle.subrectangles.proofs.lines.Lines.repeats.Goals as goal

pub returns-then-y-gt0 : goal.returns-then-y-gt0
returns-then-y-gt0 c same b =
    let rows : List (List ℕ) = lines_in c.args.self.now in
    let e : c.row.result.now ≡ c.row-then-y-gt0.result.now = search rules in
    none_in_repeated rows c.args.y c.if-y-gt0.true (sym c.row.ensures.row ∙ e ∙ c.row-then-y-gt0.ensures.row) b
